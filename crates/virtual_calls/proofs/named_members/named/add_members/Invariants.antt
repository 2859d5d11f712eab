use Rattle.std.proofs.Common.{◌≡◌, ◌++◌, map, drop}
use Rattle.virtual_calls.specs.named_members.Named.{member_of}
use Rattle.virtual_calls.proofs.named_members.named.add_members.Given as goal

abbrev pub invariant-loop-at : goal.invariant-loop-at
invariant-loop-at l = l.members ++ map (member_of l.all l.kind l.ty) (drop l.at-index l.rows) ≡ l.initial.members ++ map (member_of l.all l.kind l.ty) l.rows
