use Rattle.std.proofs.Common.{◌≡◌, ◌++◌, take}
use Rattle.std.specs.List.{flat_map}
use Rattle.attr_blobs.specs.Writing.{arg_bytes}
use Rattle.attr_blobs.proofs.write.+writing.Given as goal

abbrev pub invariant-put_args-loop-arg : goal.invariant-put_args-loop-arg
invariant-put_args-loop-arg l = l.out.items ≡ l.initial.out.items ++ flat_map (λ a. arg_bytes a l.kind) (take l.arg-index l.args)
