-- Each primitive has a row in the table of the core library, before names that only modifiers use (II.7.1.1).
use Rattle.std.proofs.Common.{◌≡◌, ℕ, ◌+◌, Bool, true, false, cond, List, [], ◌∷◌, ◌++◌, Option, Some, None, refl, sym, ap, subst, ◌∙◌}
use Rattle.std.specs.Prelude.{codes, find, position, ◌||◌, if◌then◌else◌}
use Rattle.std.specs.List.{list_all, list_any, position_from}
use Rattle.std.specs.Option.{option_map}
use Rattle.std.specs.Cmp.{first_so, second_so}
use Rattle.std.proofs.lemmas.Bool.{eqb-true}
use Rattle.std.proofs.lemmas.Iterator.Adapters.{position_from-zero}
use Rattle.il_base.specs.declared.world_model.types.TypeDefRow.{TypeDefRow}
use Rattle.il_base.specs.world_model.Core.{same_name, is_code}
use Rattle.il_base.specs.world_model.Worlds.{prims, prim_of, is_prim_name, is_code_of}
use Rattle.il_base.specs.core_table.Names.{text_of}
use Rattle.il_base.specs.core_table.Record.{core_record, record_with, type_rows, type_row}

-- ---- a code that a row has is one of the table's

all_prims : list_all (λ (p : ℕ × List ℕ). list_any (is_code_of p.0) core_record.type_def) prims ≡ true
unfolding core_record record_with type_rows type_row text_of prim_of prims
all_prims = refl

module _ (rows : List TypeDefRow) (n : ℕ) where
  code_by : (p : ℕ × List ℕ) (rest : Option (ℕ × List ℕ)) (b : Bool) → list_any (is_code_of p.0) rows ≡ true → (is_code n (option_map (λ (q : ℕ × List ℕ). q.0) rest) ≡ true → list_any (is_code_of n) rows ≡ true)
      → is_code n (option_map (λ (q : ℕ × List ℕ). q.0) (cond b (Some p) rest)) ≡ true → list_any (is_code_of n) rows ≡ true
  code_by p rest true here more h = subst (λ (m : ℕ). list_any (is_code_of m) rows ≡ true) (eqb-true p.0 n h) here
  code_by p rest false here more h = more h

  code_in : (test : ℕ × List ℕ → Bool) (ps : List (ℕ × List ℕ)) → list_all (λ (p : ℕ × List ℕ). list_any (is_code_of p.0) rows) ps ≡ true
      → is_code n (option_map (λ (q : ℕ × List ℕ). q.0) (find test ps)) ≡ true → list_any (is_code_of n) rows ≡ true
  code_in test [] all h = absurd (cc)
  code_in test (p ∷ ps) all h =
      code_by p (find test ps) (test p) (first_so (list_any (is_code_of p.0) rows) (list_all (λ (p : ℕ × List ℕ). list_any (is_code_of p.0) rows) ps) all)
      (λ g. code_in test ps (second_so (list_any (is_code_of p.0) rows) (list_all (λ (p : ℕ × List ℕ). list_any (is_code_of p.0) rows) ps) all) g) h

prim_is : (row : TypeDefRow) → prim_of row ≡ (if same_name row.namespace (codes "System") then option_map (λ (q : ℕ × List ℕ). q.0) (find (is_prim_name row.name) prims) else None)
unfolding prim_of
prim_is row = refl

named_by : (n : ℕ) (row : TypeDefRow) (b : Bool) → is_code n (if b then option_map (λ (q : ℕ × List ℕ). q.0) (find (is_prim_name row.name) prims) else None) ≡ true → list_any (is_code_of n) core_record.type_def ≡ true
named_by n row true h = code_in core_record.type_def n (is_prim_name row.name) prims all_prims h
named_by n row false h = absurd (cc)

known_code : (n : ℕ) (row : TypeDefRow) → is_code_of n row ≡ true → list_any (is_code_of n) core_record.type_def ≡ true
known_code n row h = named_by n row (same_name row.namespace (codes "System")) (ap (is_code n) (sym (prim_is row)) ∙ h)

-- ---- so rows after the table change no search

module _ {A : Type 0} (t : A → Bool) where
  found_by : (x : A) (xs ys : List A) (d : ℕ) (b : Bool) → t x ≡ b → (b || list_any t xs) ≡ true → (list_any t xs ≡ true → position_from t (d + 1) (xs ++ ys) ≡ position_from t (d + 1) xs)
      → cond b (Some d) (position_from t (d + 1) (xs ++ ys)) ≡ cond b (Some d) (position_from t (d + 1) xs)
  found_by x xs ys d true e h more = refl
  found_by x xs ys d false e h more = more h

  found_front : (xs ys : List A) (d : ℕ) → list_any t xs ≡ true → position_from t d (xs ++ ys) ≡ position_from t d xs
  found_front [] ys d h = absurd (cc)
  found_front (x ∷ xs) ys d h = found_by x xs ys d (t x) refl h (λ g. found_front xs ys (d + 1) g)

  none_of : (ys : List A) (d : ℕ) → ((y : A) → t y ≡ false) → position_from t d ys ≡ None
  none_of [] d none = refl
  none_of (y ∷ ys) d none = ap (λ (b : Bool). cond b (Some d) (position_from t (d + 1) ys)) (none y) ∙ none_of ys (d + 1) none

  none_behind : (xs ys : List A) (d : ℕ) → ((y : A) → t y ≡ false) → position_from t d (xs ++ ys) ≡ position_from t d xs
  none_behind [] ys d none = none_of ys d none
  none_behind (x ∷ xs) ys d none = ap (cond (t x) (Some d)) (none_behind xs ys (d + 1) none)

  not_so : (b : Bool) (y : A) (xs : List A) → t y ≡ b → (t y ≡ true → list_any t xs ≡ true) → list_any t xs ≡ false → b ≡ false
  not_so true y xs e known none = let bad : true ≡ false = sym (known e) ∙ none in absurd (cc)
  not_so false y xs e known none = refl

  by_any : (xs ys : List A) (b : Bool) → list_any t xs ≡ b → ((y : A) → t y ≡ true → list_any t xs ≡ true) → position_from t 0 (xs ++ ys) ≡ position_from t 0 xs
  by_any xs ys true e known = found_front xs ys 0 e
  by_any xs ys false e known = none_behind xs ys 0 (λ y. not_so (t y) y xs refl (known y) e)

pub prim_first : (n : ℕ) (added : List TypeDefRow) → position (is_code_of n) (core_record.type_def ++ added) ≡ position (is_code_of n) core_record.type_def
prim_first n added =
    position_from-zero (is_code_of n) (core_record.type_def ++ added)
    ∙ by_any (is_code_of n) core_record.type_def added (list_any (is_code_of n) core_record.type_def) refl (λ row h. known_code n row h)
    ∙ sym (position_from-zero (is_code_of n) core_record.type_def)
