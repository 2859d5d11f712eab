-- Lists at the end of others.
use Rattle.std.proofs.Common.{◌≡◌, List, [], ◌++◌, map, sym, ap, ◌∙◌, append_assoc}
use Rattle.std.proofs.lemmas.List.{append-nil, map-append}

pub two_put : {A : Type 0} (out xs ys : List A) → (out ++ xs) ++ ys ≡ out ++ (xs ++ ys)
two_put out xs ys = append_assoc out xs ys

pub none_more : {A : Type 0} (out : List A) → out ++ [] ≡ out
none_more out = append-nil out

-- two lists of what is said, one after the other
pub both_mapped : {A B : Type 0} (f : A → B) (out : List B) (xs ys : List A) → (out ++ map f xs) ++ map f ys ≡ out ++ map f (xs ++ ys)
both_mapped f out xs ys = append_assoc out (map f xs) (map f ys) ∙ ap (λ (zs : _). out ++ zs) (sym (map-append f xs ys))
