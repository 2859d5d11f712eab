-- Lists at the end of others.
use Rattle.std.proofs.Common.{◌≡◌, List, [], ◌∷◌, ◌++◌, map, ap, ◌∙◌, append_assoc}
use Rattle.std.proofs.lemmas.List.{append-nil, map-append}

pub one_more : {A B : Type 0} (f : A → B) (xs : List A) (x : A) → map f (xs ++ x ∷ []) ≡ map f xs ++ f x ∷ []
one_more f xs x = map-append f xs (x ∷ [])

pub none_more : {A : Type 0} (out : List A) → out ++ [] ≡ out
none_more out = append-nil out

pub two_put : {A : Type 0} (out xs ys : List A) → (out ++ xs) ++ ys ≡ out ++ (xs ++ ys)
two_put out xs ys = append_assoc out xs ys

pub three_put : {A : Type 0} (out xs ys zs : List A) → ((out ++ xs) ++ ys) ++ zs ≡ out ++ ((xs ++ ys) ++ zs)
three_put out xs ys zs = ap (λ (ws : _). ws ++ zs) (append_assoc out xs ys) ∙ append_assoc out (xs ++ ys) zs
