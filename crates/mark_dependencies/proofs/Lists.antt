-- Lists at the end of others.
use Rattle.std.proofs.Common.{◌≡◌, List, [], ◌∷◌, ◌++◌, map, refl, ap, append_assoc}
use Rattle.std.specs.List.{flat_map}
use Rattle.std.proofs.lemmas.List.{append-nil}

pub two_put : {A : Type 0} (out xs ys : List A) → (out ++ xs) ++ ys ≡ out ++ (xs ++ ys)
two_put out xs ys = append_assoc out xs ys

pub others_put : {A : Type 0} (out xs ys zs : List A) → (out ++ xs) ++ (ys ++ zs) ≡ out ++ ((xs ++ ys) ++ zs)
others_put out xs ys zs = simp append_assoc

pub first_then : {A : Type 0} (out xs : List A) (x : A) → (out ++ x ∷ []) ++ xs ≡ out ++ x ∷ xs
first_then out xs x = append_assoc out (x ∷ []) xs

pub none_more : {A : Type 0} (out : List A) → out ++ [] ≡ out
none_more out = append-nil out

pub flat_told : {A B C : Type 0} (f : B → List C) (g : A → B) (xs : List A) → flat_map (λ x. f (g x)) xs ≡ flat_map f (map g xs)
flat_told f g [] = refl
flat_told f g (x ∷ xs) = ap (λ (r : List _). f (g x) ++ r) (flat_told f g xs)
