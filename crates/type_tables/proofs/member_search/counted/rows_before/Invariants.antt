use Rattle.std.proofs.Common.{◌≡◌, ◌+◌, ◌-◌, ◌≤◌, drop}
use Rattle.il_base.specs.world_model.Worlds.{rows_before}
use Rattle.type_tables.specs.member_search.Counted.{count_in}
use Rattle.type_tables.proofs.member_search.counted.rows_before.Given as goal

abbrev pub invariant-loop-i : goal.invariant-loop-i
invariant-loop-i l = record {
  within : l.i ≤ l.a;
  counted : l.before + rows_before (count_in l.counted) (drop l.i l.all) (l.a - l.i) ≡ rows_before (count_in l.counted) l.all l.a;
}
