-- The first list that was met before, one after the other.
use Rattle.std.proofs.Common.{◌≡◌, ℕ, suc, ◌+◌, ◌<◌, Bool, true, false, ◌||◌, List, [], ◌∷◌, length, map, drop, get_or, Option, Some, None, refl, sym, ap, ◌∙◌, arith}
use Rattle.std.specs.Prelude.{if◌then◌else◌, bytes_eq}
use Rattle.std.specs.List.{list_any}
use Rattle.std.specs.Option.{option_map}
use Rattle.rules.specs.link_rules.Faults.{same_key, repeat_from, first_repeat}
use Rattle.link_faults.specs.Repeats.{repeat_by}
use Rattle.link_faults.proofs.Taken.{name_symmetric}
use Rattle.link_faults.proofs.Walks.{next_of}

-- ---- by codes in place of the items

module _ {A : Type 0} (same : A → A → Bool) (code : A → List ℕ) (by_code : (x y : A) → same x y ≡ bytes_eq (code x) (code y)) where
  key_same : (x y : Option A) → same_key same x y ≡ same_key bytes_eq (option_map code x) (option_map code y)
  key_same None y = refl
  key_same (Some x) None = refl
  key_same (Some x) (Some y) = by_code x y

  any_same : (x : Option A) (earlier : List (Option A)) → list_any (same_key same x) earlier ≡ list_any (same_key bytes_eq (option_map code x)) (map (option_map code) earlier)
  any_same x [] = refl
  any_same x (y ∷ earlier) = λ i. key_same x y i || any_same x earlier i

  repeat_same : (earlier : List (Option A)) (i : ℕ) (xs : List (Option A)) → repeat_from same earlier i xs ≡ repeat_from bytes_eq (map (option_map code) earlier) i (map (option_map code) xs)
  repeat_same earlier i [] = refl
  repeat_same earlier i (x ∷ xs) = λ j. if any_same x earlier j then Some i else repeat_same (x ∷ earlier) (suc i) xs j

  pub repeat_by_code : (xs : List (Option A)) → first_repeat same xs ≡ first_repeat bytes_eq (map (option_map code) xs)
  unfolding first_repeat
  repeat_by_code xs = repeat_same [] 0 xs

-- ---- by a test for those that were met

one_more : (b c m : Bool) → b ≡ c → (if b then true else m) ≡ (c || m)
one_more true c m e = ap (λ x. x || m) e
one_more false c m e = ap (λ x. x || m) e

none_same : (earlier : List (Option (List ℕ))) → list_any (same_key bytes_eq None) earlier ≡ false
none_same [] = refl
none_same (y ∷ earlier) = none_same earlier

met_same : (met : List ℕ → Bool) (earlier : List (Option (List ℕ))) (i : ℕ) (codes : List (Option (List ℕ)))
    → ((code : List ℕ) → met code ≡ list_any (same_key bytes_eq (Some code)) earlier) → repeat_by met i codes ≡ repeat_from bytes_eq earlier i codes
met_same met earlier i [] h = refl
met_same met earlier i (None ∷ codes) h = met_same met (None ∷ earlier) (suc i) codes h ∙ sym (rw (none_same earlier) refl)
met_same met earlier i (Some code ∷ codes) h = λ j.
    if h code j then Some i
    else met_same (λ other. if bytes_eq code other then true else met other) (Some code ∷ earlier) (suc i) codes
    (λ other. one_more (bytes_eq code other) (bytes_eq other code) (met other) (name_symmetric code other) ∙ ap (λ b. bytes_eq other code || b) (h other)) j

pub met_first : (met : List ℕ → Bool) (codes : List (Option (List ℕ))) → ((code : List ℕ) → met code ≡ false) → repeat_by met 0 codes ≡ first_repeat bytes_eq codes
unfolding first_repeat
met_first met codes h = met_same met [] 0 codes h

met_like : (met now : List ℕ → Bool) (i : ℕ) (codes : List (Option (List ℕ))) → ((code : List ℕ) → now code ≡ met code) → repeat_by now i codes ≡ repeat_by met i codes
met_like met now i codes h = λ j. repeat_by (λ code. h code j) i codes

-- ---- a loop over lists

module _ (met now : List ℕ → Bool) (codes : List (Option (List ℕ))) (i : ℕ) (item : Option (List ℕ)) (found : Option ℕ) (lt : i < length codes) (e : item ≡ get_or codes i item) (h : repeat_by met i (drop i codes) ≡ found) where
  rest : repeat_by met i (item ∷ drop (i + 1) codes) ≡ found
  rest = ap (repeat_by met i) (sym (next_of codes i item lt e)) ∙ h

  pub met_passed : item ≡ None → repeat_by met (i + 1) (drop (i + 1) codes) ≡ found
  met_passed none =
      let z : i + 1 ≡ suc i = omega arith in
      ap (λ (k : ℕ). repeat_by met k (drop (i + 1) codes)) z ∙ ap (λ (o : Option (List ℕ)). repeat_by met i (o ∷ drop (i + 1) codes)) (sym none) ∙ rest

  pub met_here : (code : List ℕ) → item ≡ Some code → met code ≡ true → Some i ≡ found
  met_here code some t =
      sym (ap (λ (b : Bool). if b then Some i else repeat_by (λ other. if bytes_eq code other then true else met other) (suc i) (drop (i + 1) codes)) t)
      ∙ ap (λ (o : Option (List ℕ)). repeat_by met i (o ∷ drop (i + 1) codes)) (sym some) ∙ rest

  pub met_later : (code : List ℕ) → item ≡ Some code → met code ≡ false → ((other : List ℕ) → now other ≡ (if bytes_eq code other then true else met other)) → repeat_by now (i + 1) (drop (i + 1) codes) ≡ found
  met_later code some t n =
      let z : i + 1 ≡ suc i = omega arith in
      ap (λ (k : ℕ). repeat_by now k (drop (i + 1) codes)) z
      ∙ met_like (λ other. if bytes_eq code other then true else met other) now (suc i) (drop (i + 1) codes) n
      ∙ sym (ap (λ (b : Bool). if b then Some i else repeat_by (λ other. if bytes_eq code other then true else met other) (suc i) (drop (i + 1) codes)) t)
      ∙ ap (λ (o : Option (List ℕ)). repeat_by met i (o ∷ drop (i + 1) codes)) (sym some) ∙ rest
