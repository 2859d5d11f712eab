-- Lists at the end of others.
use Rattle.std.proofs.Common.{◌≡◌, List, ◌++◌, append_assoc}

pub two_put : {A : Type 0} (out xs ys : List A) → (out ++ xs) ++ ys ≡ out ++ (xs ++ ys)
two_put out xs ys = append_assoc out xs ys
