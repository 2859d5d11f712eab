use Rattle.std.proofs.Common.{◌*◌, ◌<◌, ◌^◌, SomeIff}
use Rattle.std.specs.Int.{w32, cast_unsigned}
use Rattle.rules.specs.step_rules.Integers.{bits}
use Rattle.machine_numbers.proofs.lemmas.cil_arithmetic.Exact.{bits_of, unsigned_by}
use Rattle.machine_numbers.proofs.cil_arithmetic.int32.times_unsigned.Goals as goal

pub returns : goal.returns
returns c =
    let m = cast_unsigned w32 c.args.a in
    let n = cast_unsigned w32 c.args.b in
    let h : SomeIff c.checked_mul.result (m * n < 2 ^ bits w32) (m * n) =
    rw (bits_of w32 c.args.a _ c.ranges.a c.cast_unsigned.ensures, bits_of w32 c.args.b _ c.ranges.b c.cast_unsigned-2.ensures) at c.checked_mul.ensures in
    unsigned_by w32 (m * n) c.checked_mul.result c.signed_or_overflow.result h c.signed_or_overflow.ensures
