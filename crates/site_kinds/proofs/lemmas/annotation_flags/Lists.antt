-- Lists at the end of others.
use Rattle.std.proofs.Common.{◌≡◌, List, [], ◌++◌}
use Rattle.std.proofs.lemmas.List.{append-nil}

pub none_more : {A : Type 0} (out : List A) → out ++ [] ≡ out
none_more out = append-nil out
