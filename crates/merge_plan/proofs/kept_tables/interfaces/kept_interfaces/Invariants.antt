use Rattle.std.proofs.Common.{◌≡◌, ◌++◌, map, drop}
use Rattle.merge_plan.specs.Kept.{all_from, kept_by}
use Rattle.merge_plan.specs.kept_tables.Order.{sorted_of}
use Rattle.merge_plan.specs.kept_tables.Tables.{impls_of}
use Rattle.merge_plan.proofs.kept_tables.interfaces.kept_interfaces.Given as goal

abbrev pub invariant-loop-a : goal.invariant-loop-a
invariant-loop-a l = map sorted_of l.rows.items ++ all_from (impls_of l.recs (kept_by l.kept) l.types) l.a (drop l.a l.rec-items) ≡ all_from (impls_of l.recs (kept_by l.kept) l.types) 0 l.rec-items
