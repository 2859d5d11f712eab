-- Lists at the end of others.
use Rattle.std.proofs.Common.{◌≡◌, List, [], ◌++◌, append_assoc, ap, ◌∙◌}
use Rattle.std.proofs.lemmas.List.{append-nil}

pub three_put : {A : Type 0} (out xs ys zs : List A) → ((out ++ xs) ++ ys) ++ zs ≡ out ++ ((xs ++ ys) ++ zs)
three_put out xs ys zs = ap (λ (l : List _). l ++ zs) (append_assoc out xs ys) ∙ append_assoc out (xs ++ ys) zs

pub none_more : {A : Type 0} (out : List A) → out ++ [] ≡ out
none_more out = append-nil out
