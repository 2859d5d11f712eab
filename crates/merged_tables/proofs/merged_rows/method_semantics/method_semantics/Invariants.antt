use Rattle.std.proofs.Common.{◌≡◌, ◌++◌, drop}
use Rattle.merge_plan.specs.Kept.{all_from}
use Rattle.merged_tables.specs.merged_rows.Belonging.{method_semantics_in}
use Rattle.merged_tables.proofs.merged_rows.method_semantics.method_semantics.Given as goal

abbrev pub invariant-loop-a : goal.invariant-loop-a
invariant-loop-a l = l.rows.items ++ all_from (method_semantics_in l.tables) l.a (drop l.a l.rec-items) ≡ all_from (method_semantics_in l.tables) 0 l.rec-items
