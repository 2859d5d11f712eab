use Rattle.std.proofs.Common.{◌≡◌, map, take}
use Rattle.rules.specs.merge_rules.Rows.{places}
use Rattle.merge_plan.specs.kept_tables.Order.{sorted_of}
use Rattle.merge_plan.proofs.kept_tables.tables.places_of.Given as goal

abbrev pub invariant-loop-row : goal.invariant-loop-row
invariant-loop-row l = l.places.items ≡ places (map sorted_of (take l.row-index l.rows))
