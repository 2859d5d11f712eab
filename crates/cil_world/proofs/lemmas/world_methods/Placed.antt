-- What is in a place is what is made of the row that has this place in the world.
use Rattle.std.proofs.Common.{◌≡◌, ◌<◌, ◌≤◌, ℕ, suc, ◌+◌, ◌-◌, Bool, true, false, nat_lt, List, [], ◌∷◌, length, Option, Some, None, refl, sym, ap, ◌∙◌, arith, rules}
use Rattle.std.specs.Prelude.{slice_get, unwrap_or, ◌++◌, if◌then◌else◌}
use Rattle.std.specs.Option.{option_and_then}
use Rattle.il_base.specs.declared.world_model.record.AsmRec.{AsmRec}
use Rattle.rules.specs.declared.link_rules.row_at.RowAt.{RowAt}
use Rattle.rules.specs.link_rules.Types.{at_row}
use Rattle.rules.specs.link_rules.Members.{home_from}
use Rattle.base_laws.proofs.lemmas.link_laws.Lists.{get_front, get_behind, get_range, length_range}
use Rattle.cil_world.specs.world_methods.Rows.{rows_of, rows_from, in_place}

get_after : {A : Type 0} (xs ys : List A) (n k : ℕ) → length xs ≡ n → slice_get (xs ++ ys) (n + k) ≡ slice_get ys k
get_after xs ys n k e = rw (sym e) (get_behind xs ys k)

module _ {A : Type 0} (count : AsmRec → ℕ) (f : RowAt → Option A) where
  placed_by : (rec : AsmRec) (recs : List AsmRec) (a n : ℕ) (b : Bool) → nat_lt n (count rec) ≡ b
      → in_place (rows_from count f (suc a) recs) (n - count rec) ≡ option_and_then f (home_from count (suc a) recs (n - count rec))
      → in_place (rows_from count f a (rec ∷ recs)) n ≡ option_and_then f (if b then Some (at_row a n) else home_from count (suc a) recs (n - count rec))
  placed_by rec recs a n true is more =
      let lt : n < count rec = search rules in
      let long = length_range (λ (k : ℕ). f (at_row a k)) (count rec) 0 in
      ap (λ (o : Option (Option A)). unwrap_or o None)
      (get_front (rows_of f a (count rec)) (rows_from count f (a + 1) recs) n (omega arith) ∙ get_range (λ (k : ℕ). f (at_row a k)) (count rec) 0 n n (omega arith) lt)
  placed_by rec recs a n false is more =
      let ge : count rec ≤ n = search rules in
      let place : n ≡ count rec + (n - count rec) = omega arith in
      let next : a + 1 ≡ suc a = omega arith in
      ap (in_place (rows_from count f a (rec ∷ recs))) place
      ∙ ap (λ (o : Option (Option A)). unwrap_or o None)
      (get_after (rows_of f a (count rec)) (rows_from count f (a + 1) recs) (count rec) (n - count rec) (length_range (λ (k : ℕ). f (at_row a k)) (count rec) 0))
      ∙ ap (λ (i : ℕ). in_place (rows_from count f i recs) (n - count rec)) next ∙ more

  placed_from : (recs : List AsmRec) (a n : ℕ) → in_place (rows_from count f a recs) n ≡ option_and_then f (home_from count a recs n)
  unfolding home_from
  placed_from [] a n = refl
  placed_from (rec ∷ recs) a n = placed_by rec recs a n (nat_lt n (count rec)) refl (placed_from recs (suc a) (n - count rec))

  pub placed : (recs : List AsmRec) (n : ℕ) → in_place (rows_from count f 0 recs) n ≡ option_and_then f (home_from count 0 recs n)
  placed recs n = placed_from recs 0 n
