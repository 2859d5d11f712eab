use Rattle.std.proofs.Common.{◌≡◌, ◌++◌, drop}
use Rattle.std.specs.List.{flat_map}
use Rattle.virtual_calls.specs.named_members.Accessors.{method_under}
use Rattle.virtual_calls.proofs.named_members.accessors.methods_under.Given as goal

abbrev pub invariant-loop-k : goal.invariant-loop-k
invariant-loop-k l = l.found.items ++ flat_map (method_under l.rec l.asm) (drop l.k-index l.rows) ≡ flat_map (method_under l.rec l.asm) l.rows
