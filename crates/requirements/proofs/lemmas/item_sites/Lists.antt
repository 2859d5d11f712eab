-- Lists at the end of others.
use Rattle.std.proofs.Common.{◌≡◌, List, [], ◌++◌, append_assoc}
use Rattle.std.proofs.lemmas.List.{append-nil}

pub two_put : {A : Type 0} (out xs ys : List A) → (out ++ xs) ++ ys ≡ out ++ (xs ++ ys)
two_put out xs ys = append_assoc out xs ys

pub none_more : {A : Type 0} (out : List A) → out ++ [] ≡ out
none_more out = append-nil out
