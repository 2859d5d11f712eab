-- Lists of keys by the codes that stand for them.
use Rattle.std.proofs.Common.{◌≡◌, ℕ, ◌+◌, Bool, true, false, cond, not, ◌||◌, List, [], ◌∷◌, ◌++◌, map, Some, None, nat_lt, bytes_eq, refl, sym, ap, ◌∙◌}
use Rattle.std.specs.List.{list_any, position, position_or_len}
use Rattle.std.proofs.lemmas.List.{length-map, map-append}
use Rattle.rules.specs.merge_rules.Refs.{met_once}

-- a test of keys is that of what is made of them
module _ {A B : Type 0} (p : A → Bool) (q : B → Bool) (of : A → B) (same : (x : A) → p x ≡ q (of x)) where
  pub any_of : (xs : List A) → list_any p xs ≡ list_any q (map of xs)
  any_of [] = refl
  any_of (x ∷ xs) = λ i. same x i || any_of xs i

  place_or_len : (xs : List A) → position_or_len p xs ≡ position_or_len q (map of xs)
  place_or_len [] = refl
  place_or_len (x ∷ xs) = λ i. cond (not (same x i)) (1 + place_or_len xs i) 0

  pub place_of : (xs : List A) → position p xs ≡ position q (map of xs)
  place_of xs = λ i. cond (nat_lt (place_or_len xs i) (sym (length-map xs of) i)) (Some (place_or_len xs i)) None

module _ {A : Type 0} (code : A → List ℕ) where
  kept_or_put : (b : Bool) (xs : List A) (x : A) → map code (cond b xs (xs ++ x ∷ [])) ≡ cond b (map code xs) (map code xs ++ code x ∷ [])
  kept_or_put true xs x = refl
  kept_or_put false xs x = map-append code xs (x ∷ [])

  -- one more, where keys are told apart by their codes
  pub once_of : (same : A → A → Bool) → ((x y : A) → same x y ≡ bytes_eq (code x) (code y)) → (xs : List A) (x : A) → map code (met_once same xs x) ≡ met_once bytes_eq (map code xs) (code x)
  once_of same by_code xs x =
      kept_or_put (list_any (same x) xs) xs x
      ∙ ap (λ (b : Bool). cond b (map code xs) (map code xs ++ code x ∷ [])) (any_of (same x) (bytes_eq (code x)) code (by_code x) xs)

module _ {A : Type 0} (same : A → A → Bool) (code : A → List ℕ) (by_code : (x y : A) → same x y ≡ bytes_eq (code x) (code y))
    (xs : List A) (x : A) (c : List ℕ) (codes : List (List ℕ)) (e : c ≡ code x) (d : codes ≡ map code xs) where
  met_is : (b : Bool) → list_any (bytes_eq c) codes ≡ b → list_any (same x) xs ≡ b
  met_is b h = any_of (same x) (bytes_eq (code x)) code (by_code x) xs ∙ (λ i. list_any (bytes_eq (sym e i)) (sym d i)) ∙ h

  pub met_already : list_any (bytes_eq c) codes ≡ true → xs ≡ met_once same xs x
  met_already h = ap (λ (b : Bool). cond b xs (xs ++ x ∷ [])) (sym (met_is true h))

  pub met_newly : list_any (bytes_eq c) codes ≡ false → xs ++ x ∷ [] ≡ met_once same xs x
  met_newly h = ap (λ (b : Bool). cond b xs (xs ++ x ∷ [])) (sym (met_is false h))

  -- where it is
  pub place_is : position (bytes_eq c) codes ≡ position (same x) xs
  place_is = (λ i. position (bytes_eq (e i)) (d i)) ∙ sym (place_of (same x) (bytes_eq (code x)) code (by_code x) xs)
