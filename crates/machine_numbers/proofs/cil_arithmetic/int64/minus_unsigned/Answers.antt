use Rattle.std.proofs.Common.{◌-◌, ◌≤◌, SomeIff}
use Rattle.std.specs.Int.{w64, cast_unsigned}
use Rattle.machine_numbers.proofs.lemmas.cil_arithmetic.Exact.{bits_of, minus_by}
use Rattle.machine_numbers.proofs.cil_arithmetic.int64.minus_unsigned.Goals as goal

pub returns : goal.returns
returns c =
    let m = cast_unsigned w64 c.args.a in
    let n = cast_unsigned w64 c.args.b in
    let h : SomeIff c.checked_sub.result (n ≤ m) (m - n) =
    rw (bits_of w64 c.args.a _ c.ranges.a c.cast_unsigned.ensures, bits_of w64 c.args.b _ c.ranges.b c.cast_unsigned-2.ensures) at c.checked_sub.ensures in
    minus_by w64 m n c.checked_sub.result c.signed_or_overflow.result h c.signed_or_overflow.ensures
