use Rattle.std.proofs.Common.{◌≡◌, ◌++◌, drop}
use Rattle.std.specs.List.{filter}
use Rattle.rules.specs.mark_rules.Attributes.{is_field_named}
use Rattle.mark_dependencies.proofs.called.fields_named.Given as goal

abbrev pub invariant-loop-at : goal.invariant-loop-at
invariant-loop-at l = l.found.items ++ filter (is_field_named l.all l.name) (drop l.at-index l.rows) ≡ filter (is_field_named l.all l.name) l.rows
