-- The links of a world tell what modifiers alone find.
use Rattle.std.proofs.Common.{◌≡◌, ◌<◌, ◌+◌, ℕ, List, Some, sym, subst, ap, ◌∙◌, arith}
use Rattle.std.specs.Prelude.{slice_get}
use Rattle.il_base.specs.declared.world_model.record.AsmRec.{AsmRec}
use Rattle.il_base.specs.declared.world_model.world.TypeLink.{TypeLink}
use Rattle.il_base.specs.declared.world_model.world.World.{World}
use Rattle.il_base.specs.world_model.Worlds.{rows_before, type_rows, added_link_at}
use Rattle.rules.specs.link_rules.Types.{added_by}
use Rattle.rules.specs.link_rules.Linked.{types_of, IsWorld}
use Rattle.base_laws.proofs.lemmas.link_laws.Places.{link_in}
use Rattle.base_laws.proofs.lemmas.link_laws.Tell.{long_types, same_names}
use Rattle.type_tables.proofs.Worlds.{type_links_are}

all_stand : (w : World) → IsWorld w → (a : ℕ) (rec : AsmRec) → slice_get w.recs a ≡ Some rec → (k : ℕ) → k < type_rows rec
    → slice_get w.types (rows_before type_rows w.recs a + k) ≡ slice_get (types_of w.recs a rec) k
all_stand w is a rec here k below =
    ap (λ (xs : List TypeLink). slice_get xs (rows_before type_rows w.recs a + k)) (type_links_are w is)
    ∙ link_in (types_of w.recs) type_rows (long_types w.recs) w.recs 0 a a rec here (omega arith) k below

pub added_told : (w : World) → IsWorld w → (a : ℕ) (rec : AsmRec) → slice_get w.recs a ≡ Some rec → (token : ℕ) → added_link_at w.recs w.types a token ≡ added_by w.recs a rec token
added_told w is a rec here token = (same_names w.recs w.types a rec here (λ k below. all_stand w is a rec here k (omega arith))).added token

pub added_here : (w : World) (recs : List AsmRec) (a : ℕ) (rec : AsmRec) (token : ℕ) → IsWorld w → recs ≡ w.recs → slice_get recs a ≡ Some rec
    → added_link_at w.recs w.types a token ≡ added_by recs a rec token
added_here w recs a rec token is same here =
    subst (λ (rs : List AsmRec). added_link_at w.recs w.types a token ≡ added_by rs a rec token) (sym same)
    (added_told w is a rec (subst (λ (rs : List AsmRec). slice_get rs a ≡ Some rec) same here) token)
