use Rattle.std.proofs.Common.{◌≡◌, drop}
use Rattle.std.specs.List.{position_from}
use Rattle.rules.specs.flow_rules.Sources.{same_source}
use Rattle.value_flow.proofs.numbers.number_in.Given as goal

abbrev pub invariant-loop-i : goal.invariant-loop-i
invariant-loop-i l = position_from (same_source l.s) l.i (drop l.i l.sources) ≡ position_from (same_source l.s) 0 l.sources
