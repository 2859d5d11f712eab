use Rattle.std.proofs.Common.{◌≡◌, ◌++◌}
use Rattle.rules.specs.merge_rules.Restricted.{placed_bytes}
use Rattle.merged_tables.proofs.merged_field_rvas.placing.placed.Given as goal

abbrev pub invariant-loop-row : goal.invariant-loop-row
invariant-loop-row l = l.done ++ placed_bytes l.at l.row-iterator.rest.items ≡ placed_bytes l.fn.before l.fn.rows.items
