use Rattle.std.proofs.Common.{◌≡◌, ◌++◌, drop}
use Rattle.std.specs.List.{filter}
use Rattle.rules.specs.mark_rules.Attributes.{is_property_called}
use Rattle.mark_members.proofs.called_members.mapped.properties_called.Given as goal

abbrev pub invariant-loop-at : goal.invariant-loop-at
invariant-loop-at l = l.found.items ++ filter (is_property_called l.all l.name) (drop l.at-index l.rows) ≡ filter (is_property_called l.all l.name) l.rows
