use Rattle.std.proofs.Common.{◌≡◌, take}
use Rattle.il_base.proofs.cil_values.value.Value.+copying.Given as goal

abbrev pub invariant-copy_all-loop-one : goal.invariant-copy_all-loop-one
invariant-copy_all-loop-one l = l.copies ≡ take l.one-index l.values
