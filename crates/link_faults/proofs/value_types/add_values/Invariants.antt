use Rattle.std.proofs.Common.{◌≡◌, ◌++◌, drop}
use Rattle.rules.specs.link_rules.Faults.{numbered}
use Rattle.link_faults.specs.Values.{is_value}
use Rattle.link_faults.proofs.value_types.add_values.Given as goal

abbrev pub invariant-loop-at : goal.invariant-loop-at
invariant-loop-at l =
    l.values.items ++ numbered (is_value l.scope.all.now l.scope.links.now l.asm.0) l.at (drop l.at l.row-items)
    ≡ l.initial.values.items ++ numbered (is_value l.scope.all.now l.scope.links.now l.asm.0) 0 l.row-items
