use Rattle.std.proofs.Common.{◌≡◌, ◌+◌, ◌-◌, ◌≤◌, drop}
use Rattle.il_base.specs.world_model.Worlds.{rows_before}
use Rattle.mark_parts.specs.mark_facts.Kinds.{count_in}
use Rattle.mark_parts.proofs.mark_facts.rows.rows_before.Given as goal

abbrev pub invariant-loop-i : goal.invariant-loop-i
invariant-loop-i l = record {
  within : l.i ≤ l.a;
  counted : l.before + rows_before (count_in l.kind) (drop l.i l.all) (l.a - l.i) ≡ rows_before (count_in l.kind) l.all l.a;
}
