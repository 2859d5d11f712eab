use Rattle.std.proofs.Common.{◌≡◌, drop}
use Rattle.rules.specs.mark_rules.Properties.{event_owner_in}
use Rattle.mark_parts.proofs.mark_rows.rows.event_owner.Given as goal

abbrev pub invariant-loop-row : goal.invariant-loop-row
invariant-loop-row l = event_owner_in l.fn.k (drop l.row-index l.row-items) ≡ event_owner_in l.fn.k l.row-items
