-- A list whose first elements were changed already.
use Rattle.std.proofs.Common.{◌≡◌, ◌∙◌, refl, ap, ℕ, zero, suc, ◌+◌, ◌<◌, ◌≤◌, List, [], ◌∷◌, length, map, get_or, slice_set, arith}

abbrev pub mixed : {A : Type 0} → (A → A) → ℕ → List A → List A
mixed g zero xs = xs
mixed g (suc i) [] = []
mixed g (suc i) (x ∷ xs) = g x ∷ mixed g i xs

pub mixed_length : {A : Type 0} (g : A → A) (i : ℕ) (xs : List A) → length (mixed g i xs) ≡ length xs
mixed_length g zero xs = refl
mixed_length g (suc i) [] = refl
mixed_length g (suc i) (x ∷ xs) = ap suc (mixed_length g i xs)

pub mixed_read : {A : Type 0} (g : A → A) (i : ℕ) (xs : List A) (d : A) → get_or (mixed g i xs) i d ≡ get_or xs i d
mixed_read g zero xs d = refl
mixed_read g (suc i) [] d = refl
mixed_read g (suc i) (x ∷ xs) d = mixed_read g i xs d

next : {A : Type 0} (g : A → A) (i : ℕ) (xs : List A) (d : A) → i < length xs → slice_set (mixed g i xs) i (g (get_or xs i d)) ≡ mixed g (suc i) xs
next g i [] d p = absurd (omega (arith, p))
next g zero (x ∷ xs) d p = refl
next {A = A} g (suc i) (x ∷ xs) d p = ap (λ (ys : List A). g x ∷ ys) (next g i xs d (omega (arith, p)))

pub mixed_next : {A : Type 0} (g : A → A) (i : ℕ) (xs : List A) (d : A) → i < length xs → slice_set (mixed g i xs) i (g (get_or xs i d)) ≡ mixed g (i + 1) xs
mixed_next g i xs d p = let one : i + 1 ≡ suc i = omega arith in rw one (next g i xs d p)

pub mixed_all : {A : Type 0} (g : A → A) (i : ℕ) (xs : List A) → length xs ≤ i → mixed g i xs ≡ map g xs
mixed_all g zero [] p = refl
mixed_all g zero (x ∷ xs) p = absurd (omega (arith, p))
mixed_all g (suc i) [] p = refl
mixed_all {A = A} g (suc i) (x ∷ xs) p = ap (λ (ys : List A). g x ∷ ys) (mixed_all g i xs (omega (arith, p)))

-- one more is changed
pub changed : {A : Type 0} (g : A → A) (xs ys : List A) (i : ℕ) (x y : A) → ys ≡ mixed g i xs → i < length xs → x ≡ get_or ys i x → y ≡ g x → slice_set ys i y ≡ mixed g (i + 1) xs
changed {A = A} g xs ys i x y h p e k =
    let read : x ≡ get_or xs i x = e ∙ ap (λ (zs : List A). get_or zs i x) h ∙ mixed_read g i xs x in
    let made : y ≡ g (get_or xs i x) = k ∙ ap g read in
    ap (λ (zs : List A). slice_set zs i y) h ∙ ap (λ (z : A). slice_set (mixed g i xs) i z) made ∙ mixed_next g i xs x p
