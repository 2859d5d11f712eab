use Rattle.std.proofs.Common.{◌≡◌, ◌++◌, drop}
use Rattle.std.specs.List.{filter}
use Rattle.rules.specs.mark_rules.FlowMarks.{is_field_among}
use Rattle.mark_flow.proofs.named.fields_among.Given as goal

abbrev pub invariant-loop-at : goal.invariant-loop-at
invariant-loop-at l = l.found.items ++ filter (is_field_among l.all l.names) (drop l.at-index l.rows) ≡ filter (is_field_among l.all l.names) l.rows
