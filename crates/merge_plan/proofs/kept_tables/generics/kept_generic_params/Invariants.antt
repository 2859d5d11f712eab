use Rattle.std.proofs.Common.{◌≡◌, ◌++◌, map, drop}
use Rattle.merge_plan.specs.Kept.{all_from}
use Rattle.merge_plan.specs.kept_tables.Order.{sorted_of}
use Rattle.merge_plan.specs.kept_tables.Tables.{params_in}
use Rattle.merge_plan.proofs.kept_tables.generics.kept_generic_params.Given as goal

abbrev pub invariant-loop-a : goal.invariant-loop-a
invariant-loop-a l = map sorted_of l.rows.items ++ all_from (params_in l.types l.methods) l.a (drop l.a l.rec-items) ≡ all_from (params_in l.types l.methods) 0 l.rec-items
