use Rattle.std.proofs.Common.{◌≡◌, ◌++◌, drop}
use Rattle.merge_plan.specs.Kept.{all_from}
use Rattle.merged_tables.specs.merged_rows.Belonging.{constants_in}
use Rattle.merged_tables.proofs.merged_rows.constants.constants.Given as goal

abbrev pub invariant-loop-a : goal.invariant-loop-a
invariant-loop-a l = l.rows.items ++ all_from (constants_in l.tables) l.a (drop l.a l.rec-items) ≡ all_from (constants_in l.tables) 0 l.rec-items
