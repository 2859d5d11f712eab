use Rattle.std.proofs.Common.{◌≡◌, ◌++◌, map, drop}
use Rattle.rules.specs.type_rules.Rows.{each_from}
use Rattle.merge_plan.specs.Kept.{kept_by}
use Rattle.merge_plan.specs.kept_tables.Order.{sorted_of}
use Rattle.merge_plan.specs.kept_tables.Tables.{impl_by}
use Rattle.merge_plan.proofs.kept_tables.interfaces.push_impls.Given as goal

abbrev pub invariant-loop-k : goal.invariant-loop-k
invariant-loop-k l = map sorted_of l.rows.items ++ each_from (impl_by l.recs (kept_by l.kept) l.types l.asm) l.k (drop l.k l.row-items) ≡ map sorted_of l.initial.rows.items ++ each_from (impl_by l.recs (kept_by l.kept) l.types l.asm) 0 l.row-items
