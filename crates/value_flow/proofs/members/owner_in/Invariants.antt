use Rattle.std.proofs.Common.{◌≡◌, drop}
use Rattle.std.specs.List.{position_from}
use Rattle.rules.specs.link_rules.Members.{owns_method}
use Rattle.value_flow.proofs.members.owner_in.Given as goal

abbrev pub invariant-loop-i : goal.invariant-loop-i
invariant-loop-i l = position_from (owns_method l.row) l.i (drop l.i l.types) ≡ position_from (owns_method l.row) 0 l.types
