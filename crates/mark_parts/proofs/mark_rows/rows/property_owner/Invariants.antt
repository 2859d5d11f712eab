use Rattle.std.proofs.Common.{◌≡◌, drop}
use Rattle.rules.specs.mark_rules.Properties.{property_owner_in}
use Rattle.mark_parts.proofs.mark_rows.rows.property_owner.Given as goal

abbrev pub invariant-loop-row : goal.invariant-loop-row
invariant-loop-row l = property_owner_in l.fn.k (drop l.row-index l.row-items) ≡ property_owner_in l.fn.k l.row-items
