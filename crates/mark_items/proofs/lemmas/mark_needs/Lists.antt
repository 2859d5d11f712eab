-- Lists at the end of others.
use Rattle.std.proofs.Common.{◌≡◌, List, [], ◌∷◌, ◌++◌, map, Bool, true, false, cond, refl, sym, ap, ◌∙◌, append_assoc}
use Rattle.std.specs.Prelude.{if◌then◌else◌}
use Rattle.std.specs.List.{flat_map, filter}
use Rattle.std.proofs.lemmas.List.{append-nil, map-append}

pub two_put : {A : Type 0} (out xs ys : List A) → (out ++ xs) ++ ys ≡ out ++ (xs ++ ys)
two_put out xs ys = append_assoc out xs ys

pub first_then : {A : Type 0} (out xs : List A) (x : A) → (out ++ x ∷ []) ++ xs ≡ out ++ x ∷ xs
first_then out xs x = append_assoc out (x ∷ []) xs

pub none_more : {A : Type 0} (out : List A) → out ++ [] ≡ out
none_more out = append-nil out

one_if : {A B : Type 0} (b : Bool) (f : A → B) (x : A) (ys : List B) (xs : List A) → ys ≡ map f xs → (if b then f x ∷ [] else []) ++ ys ≡ map f (cond b (x ∷ xs) xs)
one_if true f x ys xs e = ap (λ (zs : _). f x ∷ zs) e
one_if false f x ys xs e = e

-- one item at a time, where it passes
pub filtered : {A B : Type 0} (p : A → Bool) (f : A → B) (xs : List A) → flat_map (λ x. if p x then f x ∷ [] else []) xs ≡ map f (filter p xs)
filtered p f [] = refl
filtered p f (x ∷ xs) = one_if (p x) f x (flat_map (λ y. if p y then f y ∷ [] else []) xs) (filter p xs) (filtered p f xs)

-- two lists of what is said, one after the other
pub both_mapped : {A B : Type 0} (f : A → B) (out : List B) (xs ys : List A) → (out ++ map f xs) ++ map f ys ≡ out ++ map f (xs ++ ys)
both_mapped f out xs ys = append_assoc out (map f xs) (map f ys) ∙ ap (λ (zs : _). out ++ zs) (sym (map-append f xs ys))
