-- Numbers and rows: the row that has a number has it.
use Rattle.std.proofs.Common.{◌≡◌, ◌≤◌, ℕ, suc, ◌+◌, ◌-◌, Bool, true, false, List, [], ◌∷◌, Some, refl, ap, subst, ◌∙◌, arith}
use Rattle.std.specs.Prelude.{nat_lt, slice_get, if◌then◌else◌}
use Rattle.std.specs.Option.{option_and_then}
use Rattle.std.proofs.lemmas.Bool.{ltb-false}
use Rattle.il_base.specs.declared.world_model.record.AsmRec.{AsmRec}
use Rattle.il_base.specs.declared.world_model.types.TypeDefRow.{TypeDefRow}
use Rattle.il_base.specs.world_model.Worlds.{rows_before, types_in}
use Rattle.rules.specs.declared.link_rules.row_at.RowAt.{RowAt}
use Rattle.rules.specs.link_rules.Types.{at_row}
use Rattle.rules.specs.link_rules.Members.{home_from}
use Rattle.rules.specs.type_rules.Rows.{type_row_at}
use Rattle.base_laws.proofs.lemmas.type_laws.Places.{home_is, place_has}

-- a row at or after an assembly, whose number among the rows from there on is n
pub record Numbered (count : AsmRec → ℕ) (a : ℕ) (recs : List AsmRec) (n : ℕ) (at : RowAt) : Type 0 where
  pub here : a ≤ at.asm
  pub number : rows_before count recs (at.asm - a) + at.row ≡ n

rows_next : (count : AsmRec → ℕ) (rec : AsmRec) (recs : List AsmRec) (n m : ℕ) → n ≡ suc m → rows_before count (rec ∷ recs) n ≡ count rec + rows_before count recs m
unfolding rows_before
rows_next count rec recs n m e = ap (rows_before count (rec ∷ recs)) e

rows_none : (count : AsmRec → ℕ) (recs : List AsmRec) (n : ℕ) → n ≡ 0 → rows_before count recs n ≡ 0
unfolding rows_before
rows_none count recs n e = ap (rows_before count recs) e

by_test : (count : AsmRec → ℕ) (rec : AsmRec) (recs : List AsmRec) (a n : ℕ) (at : RowAt) (b : Bool) → nat_lt n (count rec) ≡ b
    → (home_from count (suc a) recs (n - count rec) ≡ Some at → Numbered count (suc a) recs (n - count rec) at)
    → (if b then Some (at_row a n) else home_from count (suc a) recs (n - count rec)) ≡ Some at → Numbered count a (rec ∷ recs) n at
by_test count rec recs a n at true t more h =
    let asm : a ≡ at.asm = cc in
    let row : n ≡ at.row = cc in
    let none : rows_before count (rec ∷ recs) (at.asm - a) ≡ 0 = rows_none count (rec ∷ recs) (at.asm - a) (omega (arith, asm)) in
    record { here = omega (arith, asm); number = omega (arith, none, row) }
by_test count rec recs a n at false t more h =
    let ge : count rec ≤ n = ltb-false n (count rec) t in
    let is = more h in
    let next : rows_before count (rec ∷ recs) (at.asm - a) ≡ count rec + rows_before count recs (at.asm - suc a) =
    rows_next count rec recs (at.asm - a) (at.asm - suc a) (omega (arith, is.here)) in
    record { here = omega (arith, is.here); number = omega (arith, ge, next, is.number) }

pub numbered : (count : AsmRec → ℕ) (recs : List AsmRec) (a n : ℕ) (at : RowAt) → home_from count a recs n ≡ Some at → Numbered count a recs n at
unfolding home_from
numbered count [] a n at e = absurd (cc)
numbered count (rec ∷ recs) a n at e = by_test count rec recs a n at (nat_lt n (count rec)) refl (numbered count recs (suc a) (n - count rec) at) e

pub has_number : (count : AsmRec → ℕ) (recs : List AsmRec) (n : ℕ) (at : RowAt) → home_from count 0 recs n ≡ Some at → rows_before count recs at.asm + at.row ≡ n
has_number count recs n at e =
    let none : at.asm - 0 ≡ at.asm = omega arith in
    subst (λ (m : ℕ). rows_before count recs m + at.row ≡ n) none (numbered count recs 0 n at e).number

-- the type with a number is a row
pub home_row : (recs : List AsmRec) (n : ℕ) (at : RowAt) → home_from types_in 0 recs n ≡ Some at → (t : TypeDefRow) × (type_row_at recs at ≡ Some t)
home_row recs n at e =
    let s = home_is recs 0 n at e in
    let asm : s.asm ≡ at.asm = omega (arith, s.numbered) in
    let row = place_has s.rec.type_def at.row s.below in
    (row.0, ap (option_and_then (λ (rec : AsmRec). slice_get rec.type_def at.row)) (subst (λ (a : ℕ). slice_get recs a ≡ Some s.rec) asm s.there) ∙ row.1)
