use Rattle.std.proofs.Common.{◌≡◌, drop}
use Rattle.il_base.specs.core_table.Kinds.{core_row}
use Rattle.il_base.proofs.core_table.kinds.core_row.Given as goal

abbrev pub invariant-loop-i : goal.invariant-loop-i
invariant-loop-i l = core_row (drop l.i l.recs) l.left ≡ core_row l.recs l.method
