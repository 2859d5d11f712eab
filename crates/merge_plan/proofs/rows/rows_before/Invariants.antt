use Rattle.std.proofs.Common.{◌≡◌, ◌+◌, ◌-◌, ◌≤◌, drop}
use Rattle.il_base.specs.world_model.Worlds.{rows_before}
use Rattle.merge_plan.specs.Kept.{count_in}
use Rattle.merge_plan.proofs.rows.rows_before.Given as goal

abbrev pub invariant-loop-i : goal.invariant-loop-i
invariant-loop-i l = record {
  within : l.i ≤ l.a;
  counted : l.before + rows_before (count_in l.kind) (drop l.i l.recs) (l.a - l.i) ≡ rows_before (count_in l.kind) l.recs l.a;
}
