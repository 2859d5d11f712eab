use Rattle.std.proofs.Common.{◌≡◌, drop}
use Rattle.std.specs.List.{filter}
use Rattle.rules.specs.mark_rules.Attributes.{is_property_called, head_of}
use Rattle.mark_items.proofs.mark_named.properties.first_called.Given as goal

abbrev pub invariant-loop-at : goal.invariant-loop-at
invariant-loop-at l = head_of (filter (is_property_called l.all l.name) (drop l.at-index l.rows)) ≡ head_of (filter (is_property_called l.all l.name) l.rows)
