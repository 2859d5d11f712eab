use Rattle.std.proofs.Common.{◌+ℤ◌}
use Rattle.std.specs.Int.{w32}
use Rattle.machine_numbers.proofs.lemmas.cil_arithmetic.Exact.{checked_by, passed}
use Rattle.machine_numbers.proofs.cil_arithmetic.int32.plus.Goals as goal

pub returns : goal.returns
returns c =
    checked_by w32 _ _ c.checked_add.result c.or_overflow.result (passed w32 (◌+ℤ◌) c.args.a c.args.b c.ranges.a c.ranges.b) c.checked_add.ensures c.or_overflow.ensures
