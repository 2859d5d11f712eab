use Rattle.std.proofs.Common.{◌≡◌, drop}
use Rattle.attr_blobs.specs.Values.{size_of_named}
use Rattle.attr_blobs.proofs.enums.size_of_named.Given as goal

abbrev pub invariant-loop-one : goal.invariant-loop-one
invariant-loop-one l = size_of_named (drop l.one-index l.enums) l.name ≡ size_of_named l.enums l.name
