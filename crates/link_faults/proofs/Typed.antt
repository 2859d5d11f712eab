-- What is so of each type, found by its id.
use Rattle.std.proofs.Common.{◌≡◌, ℕ, zero, suc, ◌+◌, ◌<◌, List, [], ◌∷◌, length, length-append, Some, refl, ap, subst, ◌∙◌, arith}
use Rattle.std.specs.Prelude.{slice_get}
use Rattle.std.specs.Option.{option_map}
use Rattle.il_base.specs.declared.world_model.types.TypeDefRow.{TypeDefRow}
use Rattle.il_base.specs.declared.world_model.record.AsmRec.{AsmRec}
use Rattle.il_base.specs.world_model.Worlds.{rows_before, types_in}
use Rattle.rules.specs.declared.link_rules.row_at.RowAt.{RowAt}
use Rattle.rules.specs.link_rules.Faults.{numbered}
use Rattle.rules.specs.link_rules.Linked.{links_from}
use Rattle.base_laws.proofs.lemmas.link_laws.Lists.{get_numbered, length_numbered}
use Rattle.base_laws.proofs.lemmas.link_laws.Places.{link_in}
use Rattle.link_faults.specs.Targets.{id_of}
use Rattle.link_faults.proofs.Ids.{home_is}
use Rattle.link_faults.proofs.Defined.{IsType}

-- a type with its assembly and its row
pub record TypeAt (all : List AsmRec) (at : RowAt) : Type 0 where
  pub rec : AsmRec
  pub row : TypeDefRow
  pub there : slice_get all at.asm ≡ Some rec
  pub is : slice_get rec.type_def at.row ≡ Some row

has_item : {A : Type 0} (xs : List A) (k : ℕ) → k < length xs → (x : A) × (slice_get xs k ≡ Some x)
has_item [] k lt = absurd (omega arith)
has_item (x ∷ xs) zero lt = (x, refl)
has_item (x ∷ xs) (suc k) lt = has_item xs k (omega arith)

pub type_at : (all : List AsmRec) (at : RowAt) → IsType all at → TypeAt all at
type_at all at t =
    let s = home_is all 0 (id_of all at) at t in
    let e : s.asm ≡ at.asm = omega (arith, s.numbered) in
    let x = has_item s.rec.type_def at.row s.below in
    record { rec = s.rec; row = x.0; there = subst (λ (a : ℕ). slice_get all a ≡ Some s.rec) e s.there; is = x.1 }

pub item_within : {A : Type 0} (xs : List A) (k : ℕ) (x : A) → slice_get xs k ≡ Some x → k < length xs
item_within [] k x e = cc
item_within (y ∷ xs) zero x e = omega arith
item_within (y ∷ xs) (suc k) x e = let lt = item_within xs k x e in omega arith

-- a list with an item for each type has that of a type at its id
pub of_type : {A : Type 0} (f : ℕ → AsmRec → ℕ → TypeDefRow → A) (all : List AsmRec) (at : RowAt) (t : TypeAt all at)
    → slice_get (links_from (λ a (rec : AsmRec). numbered (f a rec) 0 rec.type_def) 0 all) (id_of all at) ≡ Some (f at.asm t.rec at.row t.row)
of_type f all at t =
    link_in (λ a (rec : AsmRec). numbered (f a rec) 0 rec.type_def) types_in (λ i (r : AsmRec). length_numbered (f i r) r.type_def 0) all 0 at.asm at.asm t.rec t.there (omega arith) at.row
    (item_within t.rec.type_def at.row t.row t.is)
    ∙ get_numbered (f at.asm t.rec) t.rec.type_def 0 at.row at.row (omega arith)
    ∙ ap (option_map (f at.asm t.rec at.row)) t.is

-- there is an item for each type and no other
pub as_many : {A : Type 0} (f : ℕ → AsmRec → ℕ → TypeDefRow → A) (i : ℕ) (all : List AsmRec)
    → length (links_from (λ a (rec : AsmRec). numbered (f a rec) 0 rec.type_def) i all) ≡ rows_before types_in all (length all)
unfolding rows_before
as_many f i [] = refl
as_many f i (rec ∷ all) =
    length-append (numbered (f i rec) 0 rec.type_def) (links_from (λ a (r : AsmRec). numbered (f a r) 0 r.type_def) (suc i) all)
    ∙ (λ j. length_numbered (f i rec) rec.type_def 0 j + as_many f (suc i) all j)
