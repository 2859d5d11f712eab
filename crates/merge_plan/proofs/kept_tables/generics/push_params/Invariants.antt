use Rattle.std.proofs.Common.{◌≡◌, ◌++◌, map, drop}
use Rattle.rules.specs.type_rules.Rows.{each_from}
use Rattle.merge_plan.specs.kept_tables.Order.{sorted_of}
use Rattle.merge_plan.specs.kept_tables.Tables.{param_by}
use Rattle.merge_plan.proofs.kept_tables.generics.push_params.Given as goal

abbrev pub invariant-loop-k : goal.invariant-loop-k
invariant-loop-k l = map sorted_of l.rows.items ++ each_from (param_by l.types l.methods l.asm) l.k (drop l.k l.row-items) ≡ map sorted_of l.initial.rows.items ++ each_from (param_by l.types l.methods l.asm) 0 l.row-items
