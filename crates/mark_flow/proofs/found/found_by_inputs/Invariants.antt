use Rattle.std.proofs.Common.{◌≡◌, ◌++◌, drop}
use Rattle.rules.specs.type_rules.Rows.{each_from}
use Rattle.rules.specs.mark_rules.FlowMarks.{found_from}
use Rattle.mark_flow.proofs.found.found_by_inputs.Given as goal

abbrev pub invariant-loop-from : goal.invariant-loop-from
invariant-loop-from l =
    l.found.items ++ each_from (found_from l.types.recs l.text) l.from (drop l.from l.all) ≡ each_from (found_from l.types.recs l.text) 0 l.all
