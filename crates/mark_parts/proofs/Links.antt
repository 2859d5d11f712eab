-- What links tell of the tokens of an assembly.
use Rattle.std.proofs.Common.{◌≡◌, ℕ, List, Some, sym, subst}
use Rattle.std.specs.Prelude.{slice_get}
use Rattle.il_base.specs.declared.world_model.record.AsmRec.{AsmRec}
use Rattle.il_base.specs.declared.world_model.world.World.{World}
use Rattle.il_base.specs.world_model.Worlds.{known_or, method_at, field_at}
use Rattle.rules.specs.link_rules.Linked.{IsWorld}
use Rattle.rules.specs.mark_rules.Naming.{method_named, field_named}
use Rattle.base_laws.specs.world_laws.Tokens.{InWorlds, NamesMethods, NamesFields}

pub method_by_links : (w : World) (recs : List AsmRec) (a : ℕ) (rec : AsmRec) (token : ℕ) → InWorlds NamesMethods → IsWorld w → recs ≡ w.recs → slice_get recs a ≡ Some rec
    → known_or (method_at w a token) ≡ method_named recs a rec token
method_by_links w recs a rec token law is same here =
    subst (λ (rs : List AsmRec). known_or (method_at w a token) ≡ method_named rs a rec token) (sym same) (law w is a rec (subst (λ (rs : List AsmRec). slice_get rs a ≡ Some rec) same here) token)

pub field_by_links : (w : World) (recs : List AsmRec) (a : ℕ) (rec : AsmRec) (token : ℕ) → InWorlds NamesFields → IsWorld w → recs ≡ w.recs → slice_get recs a ≡ Some rec
    → known_or (field_at w a token) ≡ field_named recs a rec token
field_by_links w recs a rec token law is same here =
    subst (λ (rs : List AsmRec). known_or (field_at w a token) ≡ field_named rs a rec token) (sym same) (law w is a rec (subst (λ (rs : List AsmRec). slice_get rs a ≡ Some rec) same here) token)
