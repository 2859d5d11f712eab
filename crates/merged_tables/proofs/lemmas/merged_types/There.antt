-- Kept types are there, and types that are there are told apart by their ids.
use Rattle.std.proofs.Common.{◌≡◌, ℕ, zero, suc, ◌+◌, ◌<◌, ◌≤◌, Bool, true, false, cond, List, [], ◌∷◌, ◌++◌, length, map, Some, refl, sym, ap, ◌∙◌, arith, ◌⊎◌, inl, inr}
use Rattle.std.specs.Prelude.{slice_get, nat_eq}
use Rattle.std.specs.List.{flat_map, filter, range_with_len}
use Rattle.std.proofs.lemmas.Bool.{cases_eq, ne_eqb, eq-eqb}
use Rattle.il_base.specs.declared.world_model.record.AsmRec.{AsmRec}
use Rattle.il_base.specs.world_model.Worlds.{types_in, type_id}
use Rattle.rules.specs.declared.link_rules.row_at.RowAt.{RowAt}
use Rattle.rules.specs.link_rules.Types.{at_row}
use Rattle.rules.specs.link_rules.Members.{home_from}
use Rattle.rules.specs.link_rules.Cycles.{same_row}
use Rattle.base_laws.proofs.lemmas.type_laws.Places.{home_at, rows_decide}
use Rattle.rules.specs.mark_rules.Places.{type_item}
use Rattle.rules.specs.merge_rules.Numbers.{Kept, inputs_from, inputs, kept_types}

pub record IsThere (recs : List AsmRec) (at : RowAt) : Type 0 where
  pub rec : AsmRec
  pub here : slice_get recs at.asm ≡ Some rec
  pub below : at.row < length rec.type_def

abbrev pub AllThere : List AsmRec → List RowAt → Type 0
AllThere recs [] = Unit {0}
AllThere recs (at ∷ ats) = IsThere recs at × AllThere recs ats

module _ (recs : List AsmRec) where
  -- ---- kept types

  there_append : (xs ys : List RowAt) → AllThere recs xs → AllThere recs ys → AllThere recs (xs ++ ys)
  there_append [] ys hs gs = gs
  there_append (x ∷ xs) ys hs gs = (hs.0, there_append xs ys hs.1 gs)

  there_rows : (a : ℕ) (rec : AsmRec) → slice_get recs a ≡ Some rec → (start n : ℕ) → start + n ≤ length rec.type_def → AllThere recs (map (at_row a) (range_with_len start n))
  there_rows a rec e start zero le = tt
  there_rows a rec e start (suc n) le = (record { rec = rec; here = e; below = omega arith }, there_rows a rec e (start + 1) n (omega arith))

  there_inputs : (n : ℕ) (rest : List AsmRec) → ((k : ℕ) → slice_get rest k ≡ slice_get recs (n + k))
      → AllThere recs (flat_map (λ (x : ℕ × AsmRec). map (at_row x.0) (range_with_len 0 (types_in x.1))) (inputs_from n rest))
  there_inputs n [] same = tt
  there_inputs n (rec ∷ []) same = tt
  there_inputs n (rec ∷ next ∷ rest) same =
      there_append (map (at_row n) (range_with_len 0 (types_in rec))) (flat_map (λ (x : ℕ × AsmRec). map (at_row x.0) (range_with_len 0 (types_in x.1))) (inputs_from (suc n) (next ∷ rest)))
      (there_rows n rec (let z : n ≡ n + 0 = omega arith in ap (slice_get recs) z ∙ sym (same 0)) 0 (types_in rec) (omega arith))
      (there_inputs (suc n) (next ∷ rest) (λ k. let z : n + suc k ≡ suc n + k = omega arith in same (suc k) ∙ ap (slice_get recs) z))

  there_case : (b : Bool) (x : RowAt) (xs : List RowAt) → IsThere recs x → AllThere recs xs → AllThere recs (cond b (x ∷ xs) xs)
  there_case true x xs h hs = (h, hs)
  there_case false x xs h hs = hs

  there_filter : (p : RowAt → Bool) (xs : List RowAt) → AllThere recs xs → AllThere recs (filter p xs)
  there_filter p [] hs = tt
  there_filter p (x ∷ xs) hs = there_case (p x) x (filter p xs) hs.0 (there_filter p xs hs.1)

  pub types_there : (kept : Kept) → AllThere recs (kept_types recs kept)
  unfolding kept_types
  types_there kept =
      there_filter (λ at. kept (type_item recs at)) (flat_map (λ (x : ℕ × AsmRec). map (at_row x.0) (range_with_len 0 (types_in x.1))) (inputs recs))
      (there_inputs 0 recs (λ k. let z : k ≡ 0 + k = omega arith in ap (slice_get recs) z))

  -- ---- ids

  home_of : (at : RowAt) → IsThere recs at → home_from types_in 0 recs (type_id recs at.asm at.row).0 ≡ Some at
  home_of at is = let z : 0 + at.asm ≡ at.asm = omega arith in home_at recs 0 at.asm at.row is.rec is.here is.below ∙ ap (λ (a : ℕ). Some (at_row a at.row)) z

  same_some : (x y : RowAt) → Some x ≡ Some y → x ≡ y
  same_some x y e = cc

  by_ids : (x y : RowAt) → IsThere recs x → IsThere recs y → (type_id recs x.asm x.row).0 ≡ (type_id recs y.asm y.row).0 → x ≡ y
  by_ids x y hx hy e = same_some x y (sym (home_of x hx) ∙ ap (home_from types_in 0 recs) e ∙ home_of y hy)

  not_same : (b : Bool) (x y : RowAt) → same_row x y ≡ b → (x ≡ y → ⊥) → b ≡ false
  not_same true x y e differ = absurd (differ ((rows_decide x y).0 e))
  not_same false x y e differ = refl

  pub ids_tell : (x y : RowAt) → IsThere recs x → IsThere recs y → nat_eq (type_id recs y.asm y.row).0 (type_id recs x.asm x.row).0 ≡ same_row x y
  ids_tell x y hx hy = by_case (cases_eq (type_id recs y.asm y.row).0 (type_id recs x.asm x.row).0)
    where
      by_case : ((type_id recs y.asm y.row).0 ≡ (type_id recs x.asm x.row).0) ⊎ ((type_id recs y.asm y.row).0 ≡ (type_id recs x.asm x.row).0 → ⊥)
          → nat_eq (type_id recs y.asm y.row).0 (type_id recs x.asm x.row).0 ≡ same_row x y
      by_case (inl e) = eq-eqb (type_id recs y.asm y.row).0 (type_id recs x.asm x.row).0 e ∙ sym ((rows_decide x y).1 (by_ids x y hx hy (sym e)))
      by_case (inr differ) =
          ne_eqb (type_id recs y.asm y.row).0 (type_id recs x.asm x.row).0 differ
          ∙ sym (not_same (same_row x y) x y refl (λ same. differ (ap (λ (at : RowAt). (type_id recs at.asm at.row).0) (sym same))))
