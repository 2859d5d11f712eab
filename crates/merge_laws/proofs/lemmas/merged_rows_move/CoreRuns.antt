-- Which method a type of the core library has: names that only modifiers use own nothing, and no run reaches past the table.
use Rattle.std.proofs.Common.{◌≡◌, ◌≤◌, ℕ, zero, suc, ◌+◌, Bool, true, false, cond, nat_le, nat_lt, List, [], ◌∷◌, ◌++◌, length, map, Some, None, inl, inr, refl, sym, ap, ◌∙◌, arith}
use Rattle.std.specs.Prelude.{slice_get, ◌&&◌}
use Rattle.std.specs.List.{list_all, position_from}
use Rattle.std.proofs.lemmas.Bool.{le-ltb, lt-leb, leb-true, cases_lt, and_parts, and_left, and_right}
use Rattle.il_base.specs.declared.world_model.types.TypeDefRow.{TypeDefRow}
use Rattle.il_base.specs.core_table.Members.{methods_of}
use Rattle.il_base.specs.core_table.Record.{core_record, record_with, type_rows, type_row, all_methods}
use Rattle.rules.specs.declared.link_rules.core_type_name.CoreTypeName.{CoreTypeName}
use Rattle.rules.specs.link_rules.CoreNames.{added_row}
use Rattle.rules.specs.link_rules.Members.{owns_method}

module _ {A : Type 0} (t : A → Bool) where
  -- what none of the last ones passes
  none_from : (ys : List A) (d : ℕ) → ((j : ℕ) (y : A) → slice_get ys j ≡ Some y → t y ≡ false) → position_from t d ys ≡ None
  none_from [] d none = refl
  none_from (y ∷ ys) d none = ap (λ (b : Bool). cond b (Some d) (position_from t (d + 1) ys)) (none 0 y refl) ∙ none_from ys (d + 1) (λ j z g. none (suc j) z g)

  front_only : (xs ys : List A) (d : ℕ) → ((j : ℕ) (y : A) → slice_get ys j ≡ Some y → t y ≡ false) → position_from t d (xs ++ ys) ≡ position_from t d xs
  front_only [] ys d none = none_from ys d none
  front_only (x ∷ xs) ys d none = ap (cond (t x) (Some d)) (front_only xs ys (d + 1) none)

empty_run : (n at : ℕ) → (nat_le n at && nat_lt at n) ≡ false
empty_run n at = elim (cases_lt at n) [
  | inl lt ↦ and_left (nat_le n at) (nat_lt at n) (lt-leb n at lt)
  | inr ge ↦ and_right (nat_le n at) (nat_lt at n) (le-ltb at n ge)
]

added_owns : (row : ℕ) (names : List CoreTypeName) (j : ℕ) (t : TypeDefRow) → slice_get (map (added_row core_record) names) j ≡ Some t → owns_method (suc row) t ≡ false
added_owns row [] j t e = absurd (cc)
added_owns row (x ∷ names) zero t e = let same : added_row core_record x ≡ t = cc in ap (owns_method (suc row)) (sym same) ∙ empty_run (length core_record.method_def + 1) (suc row)
added_owns row (x ∷ names) (suc j) t e = added_owns row names j t e

-- so names that only modifiers use own nothing
pub owned_by : (row : ℕ) (names : List CoreTypeName) (ts : List TypeDefRow) → ts ≡ core_record.type_def ++ map (added_row core_record) names
    → position_from (owns_method (suc row)) 0 ts ≡ position_from (owns_method (suc row)) 0 core_record.type_def
owned_by row names ts e =
    ap (position_from (owns_method (suc row)) 0) e
    ∙ front_only (owns_method (suc row)) core_record.type_def (map (added_row core_record) names) 0 (λ j t f. added_owns row names j t f)

abbrev ends_by : ℕ → TypeDefRow → Bool
ends_by n t = nat_le t.method_list_end (suc n)

core_ends : list_all (ends_by (length core_record.method_def)) core_record.type_def ≡ true
unfolding core_record record_with type_rows type_row all_methods methods_of
core_ends = refl

all_at : {A : Type 0} (p : A → Bool) (xs : List A) (k : ℕ) (x : A) → list_all p xs ≡ true → slice_get xs k ≡ Some x → p x ≡ true
all_at p [] k x h e = absurd (cc)
all_at p (y ∷ xs) zero x h e = let same : y ≡ x = cc in ap p (sym same) ∙ (and_parts (p y) (list_all p xs) h).0
all_at p (y ∷ xs) (suc k) x h e = all_at p xs k x (and_parts (p y) (list_all p xs) h).1 e

-- no run reaches past the table
pub past_end : (row : ℕ) (t : TypeDefRow) → t.method_list_end ≤ suc row → owns_method (suc row) t ≡ false
past_end row t le = and_right (nat_le t.method_list_first (suc row)) (nat_lt (suc row) t.method_list_end) (le-ltb (suc row) t.method_list_end le)

pub core_past : (row : ℕ) → length core_record.method_def ≤ row → position_from (owns_method (suc row)) 0 core_record.type_def ≡ None
core_past row past = none_from (owns_method (suc row)) core_record.type_def 0 (λ j t g. ends_early j t g)
  where
    ends_early : (j : ℕ) (t : TypeDefRow) → slice_get core_record.type_def j ≡ Some t → owns_method (suc row) t ≡ false
    ends_early j t g =
        let le = leb-true t.method_list_end (suc (length core_record.method_def)) (all_at (ends_by (length core_record.method_def)) core_record.type_def j t core_ends g) in
        past_end row t (omega (arith, le, past))
