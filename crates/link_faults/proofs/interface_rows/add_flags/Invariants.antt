use Rattle.std.proofs.Common.{◌≡◌, ◌++◌, drop}
use Rattle.rules.specs.link_rules.Faults.{numbered}
use Rattle.link_faults.specs.Supertypes.{interface_flag}
use Rattle.link_faults.proofs.interface_rows.add_flags.Given as goal

abbrev pub invariant-loop-row : goal.invariant-loop-row
invariant-loop-row l =
    l.flags.items ++ numbered interface_flag l.row-index (drop l.row-index l.row-items) ≡ l.initial.flags.items ++ numbered interface_flag 0 l.row-items
