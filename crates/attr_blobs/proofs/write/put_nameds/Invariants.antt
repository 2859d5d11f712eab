use Rattle.std.proofs.Common.{◌≡◌, ◌++◌, take}
use Rattle.std.specs.List.{flat_map}
use Rattle.attr_blobs.specs.Writing.{named_bytes}
use Rattle.attr_blobs.proofs.write.put_nameds.Given as goal

abbrev pub invariant-loop-one : goal.invariant-loop-one
invariant-loop-one l = l.out.items ≡ l.initial.out.items ++ flat_map named_bytes (take l.one-index l.named)
