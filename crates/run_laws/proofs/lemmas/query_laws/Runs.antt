-- The first row of a run that passes a test is the first of the type's rows that does (II.22.37).
use Rattle.std.proofs.Common.{◌≡◌, ℕ, zero, suc, ◌+◌, ◌-◌, Bool, true, false, List, [], ◌∷◌, length, map, Some, refl, sym, ap, subst, ◌∙◌, arith}
use Rattle.std.specs.Prelude.{IsTrue, slice_get, take, drop, if◌then◌else◌}
use Rattle.std.specs.List.{filter, position_from, range_with_len}
use Rattle.std.specs.Option.{option_map}
use Rattle.rules.specs.declared.link_rules.row_at.RowAt.{RowAt}
use Rattle.rules.specs.link_rules.Types.{at_row}
use Rattle.rules.specs.link_rules.Members.{run_of, find_in_run}
use Rattle.rules.specs.type_rules.Rows.{run_places}
use Rattle.run_laws.specs.query_laws.Laws.{first_at}
use Rattle.run_laws.proofs.lemmas.query_laws.Shapes.{filter_step}

first_step : (T : RowAt → Bool) (x : RowAt) (xs : List RowAt) (b : Bool) → T x ≡ b → first_at T (x ∷ xs) ≡ (if b then Some x else first_at T xs)
first_step T x xs true e = rw e refl
first_step T x xs false e = rw e refl

place_step : {R : Type 0} (t : R → Bool) (i : ℕ) (x : R) (xs : List R) (b : Bool) → t x ≡ b → position_from t i (x ∷ xs) ≡ (if b then Some i else position_from t (i + 1) xs)
place_step t i x xs true e = rw e refl
place_step t i x xs false e = rw e refl

-- ---- along a run

pub first_of : {R : Type 0} (a : ℕ) (t : R → Bool) (T : RowAt → Bool) (i : ℕ) (xs : List R) → ((j : ℕ) (x : R) → slice_get xs j ≡ Some x → T (at_row a (i + j)) ≡ t x)
    → option_map (at_row a) (position_from t i xs) ≡ first_at T (map (at_row a) (range_with_len i (length xs)))
first_of {R = R} a t T i [] h = refl
first_of {R = R} a t T i (x ∷ xs) h =
    let none : i + 0 ≡ i = omega arith in
    let here : T (at_row a i) ≡ t x = subst (λ (n : ℕ). T (at_row a n) ≡ t x) none (h 0 x refl) in
    let later : (j : ℕ) (y : R) → slice_get xs j ≡ Some y → T (at_row a (i + 1 + j)) ≡ t y =
    λ j y e. (let next : i + suc j ≡ i + 1 + j = omega arith in subst (λ (n : ℕ). T (at_row a n) ≡ t y) next (h (suc j) y e)) in
    by_test (first_of a t T (i + 1) xs later) (t x) refl here
  where
    rest : List RowAt
    rest = map (at_row a) (range_with_len (i + 1) (length xs))

    by_test : option_map (at_row a) (position_from t (i + 1) xs) ≡ first_at T rest → (b : Bool) → t x ≡ b → T (at_row a i) ≡ t x
        → option_map (at_row a) (position_from t i (x ∷ xs)) ≡ first_at T (at_row a i ∷ rest)
    by_test again true e here = ap (option_map (at_row a)) (place_step t i x xs true e) ∙ sym (first_step T (at_row a i) rest true (here ∙ e))
    by_test again false e here = ap (option_map (at_row a)) (place_step t i x xs false e) ∙ again ∙ sym (first_step T (at_row a i) rest false (here ∙ e))

get_take : {R : Type 0} (n : ℕ) (xs : List R) (j : ℕ) (x : R) → slice_get (take n xs) j ≡ Some x → slice_get xs j ≡ Some x
get_take zero xs j x e = cc
get_take (suc n) [] j x e = cc
get_take (suc n) (y ∷ xs) zero x e = e
get_take (suc n) (y ∷ xs) (suc j) x e = get_take n xs j x e

get_drop : {R : Type 0} (d : ℕ) (xs : List R) (j : ℕ) (x : R) → slice_get (drop d xs) j ≡ Some x → slice_get xs (d + j) ≡ Some x
get_drop zero xs j x e = let z : 0 + j ≡ j = omega arith in ap (slice_get xs) z ∙ e
get_drop (suc d) [] j x e = cc
get_drop (suc d) (y ∷ xs) j x e = let z : suc d + j ≡ suc (d + j) = omega arith in ap (slice_get (y ∷ xs)) z ∙ get_drop d xs j x e

pub first_in_run : {R : Type 0} (a : ℕ) (t : R → Bool) (T : RowAt → Bool) (first end : ℕ) (rows : List R) → ((k : ℕ) (x : R) → slice_get rows k ≡ Some x → T (at_row a k) ≡ t x)
    → option_map (at_row a) (find_in_run t first end rows) ≡ first_at T (map (at_row a) (run_places first end rows))
first_in_run a t T first end rows h =
    first_of a t T (first - 1) (run_of first end rows)
    (λ j x e. h (first - 1 + j) x (get_drop (first - 1) rows j x (get_take (end - first) (drop (first - 1) rows) j x e)))

-- ---- where those that are kept stay

-- what is found among the moved rows that are kept is the moved row that was found, where that is kept
pub first_moved : (f : RowAt → RowAt) (kept before after : RowAt → Bool) → ((x : RowAt) → IsTrue (kept x) → after (f x) ≡ before x)
    → (xs : List RowAt) → ((x : RowAt) → first_at before xs ≡ Some x → IsTrue (kept x)) → first_at after (map f (filter kept xs)) ≡ option_map f (first_at before xs)
first_moved f kept before after same [] h = refl
first_moved f kept before after same (x ∷ xs) h = by_test (before x) (kept x) refl refl
    (λ g. first_moved f kept before after same xs (λ y e. h y (first_step before x xs false g ∙ e)))
  where
    by_test : (b c : Bool) → before x ≡ b → kept x ≡ c → (before x ≡ false → first_at after (map f (filter kept xs)) ≡ option_map f (first_at before xs))
        → first_at after (map f (filter kept (x ∷ xs))) ≡ option_map f (first_at before (x ∷ xs))
    by_test true true e g again =
        ap (λ ys. first_at after (map f ys)) (filter_step kept x xs true g) ∙ first_step after (f x) (map f (filter kept xs)) true (same x g ∙ e)
        ∙ sym (ap (option_map f) (first_step before x xs true e))
    by_test true false e g again = let is : IsTrue (kept x) = h x (first_step before x xs true e) in absurd (cc)
    by_test false true e g again =
        ap (λ ys. first_at after (map f ys)) (filter_step kept x xs true g) ∙ first_step after (f x) (map f (filter kept xs)) false (same x g ∙ e)
        ∙ again e ∙ sym (ap (option_map f) (first_step before x xs false e))
    by_test false false e g again =
        ap (λ ys. first_at after (map f ys)) (filter_step kept x xs false g) ∙ again e ∙ sym (ap (option_map f) (first_step before x xs false e))
