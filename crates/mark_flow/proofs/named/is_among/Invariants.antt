use Rattle.std.proofs.Common.{◌≡◌, drop}
use Rattle.std.specs.List.{list_any}
use Rattle.rules.specs.mark_rules.FlowMarks.{is_name}
use Rattle.mark_flow.proofs.named.is_among.Given as goal

abbrev pub invariant-loop-text : goal.invariant-loop-text
invariant-loop-text l = list_any (is_name l.name) (drop l.text-index l.names) ≡ list_any (is_name l.name) l.names
