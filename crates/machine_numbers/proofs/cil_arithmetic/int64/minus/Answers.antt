use Rattle.std.proofs.Common.{◌-ℤ◌}
use Rattle.std.specs.Int.{w64}
use Rattle.machine_numbers.proofs.lemmas.cil_arithmetic.Exact.{checked_by, passed}
use Rattle.machine_numbers.proofs.cil_arithmetic.int64.minus.Goals as goal

pub returns : goal.returns
returns c =
    checked_by w64 _ _ c.checked_sub.result c.or_overflow.result (passed w64 (◌-ℤ◌) c.args.a c.args.b c.ranges.a c.ranges.b) c.checked_sub.ensures c.or_overflow.ensures
