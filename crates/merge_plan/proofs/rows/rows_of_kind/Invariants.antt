use Rattle.std.proofs.Common.{◌≡◌, ◌++◌, drop}
use Rattle.merge_plan.specs.Kept.{all_from, count_in, rows_of_one}
use Rattle.merge_plan.proofs.rows.rows_of_kind.Given as goal

abbrev pub invariant-loop-a : goal.invariant-loop-a
invariant-loop-a l = l.rows.items ++ all_from (rows_of_one (count_in l.kind)) l.a (drop l.a l.rec-items) ≡ all_from (rows_of_one (count_in l.kind)) 0 l.rec-items
