-- Lists at the end of others.
use Rattle.std.proofs.Common.{◌≡◌, List, [], ◌++◌, Option, Some, append_assoc}
use Rattle.std.specs.List.{flat_map}
use Rattle.rules.specs.link_rules.Cycles.{listed}
use Rattle.std.proofs.lemmas.List.{append-nil}

pub two_put : {A : Type 0} (out xs ys : List A) → (out ++ xs) ++ ys ≡ out ++ (xs ++ ys)
two_put out xs ys = append_assoc out xs ys

pub none_more : {A : Type 0} (out : List A) → out ++ [] ≡ out
none_more out = append-nil out

pub one_listed : {A B : Type 0} (f : A → List B) (o : Option A) (x : A) → o ≡ Some x → flat_map f (listed o) ≡ f x
one_listed f o x e = rw e (append-nil (f x))
