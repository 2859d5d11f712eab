-- Lists at the end of others.
use Rattle.std.proofs.Common.{◌≡◌, List, [], ◌∷◌, ◌++◌, sym, ap, ◌∙◌, append_assoc}
use Rattle.std.proofs.lemmas.List.{append-nil}

pub two_put : {A : Type 0} (out xs ys : List A) → (out ++ xs) ++ ys ≡ out ++ (xs ++ ys)
two_put out xs ys = append_assoc out xs ys

pub three_put : {A : Type 0} (out xs ys zs : List A) → (out ++ xs) ++ (ys ++ zs) ≡ out ++ ((xs ++ ys) ++ zs)
three_put out xs ys zs = append_assoc out xs (ys ++ zs) ∙ ap (λ (rest : _). out ++ rest) (sym (append_assoc xs ys zs))

pub first_then : {A : Type 0} (out xs : List A) (x : A) → (out ++ x ∷ []) ++ xs ≡ out ++ x ∷ xs
first_then out xs x = append_assoc out (x ∷ []) xs

pub none_more : {A : Type 0} (out : List A) → out ++ [] ≡ out
none_more out = append-nil out
