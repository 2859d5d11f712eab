use Rattle.std.proofs.Common.{◌≡◌, ◌++◌, map, drop}
use Rattle.merge_plan.specs.Kept.{all_from}
use Rattle.merge_plan.specs.kept_tables.Order.{sorted_of}
use Rattle.merge_plan.specs.kept_tables.Tables.{constraints_in}
use Rattle.merge_plan.proofs.kept_tables.constraints.kept_constraints.Given as goal

abbrev pub invariant-loop-a : goal.invariant-loop-a
invariant-loop-a l = map sorted_of l.rows.items ++ all_from (constraints_in l.params) l.a (drop l.a l.rec-items) ≡ all_from (constraints_in l.params) 0 l.rec-items
