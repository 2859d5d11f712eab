use Rattle.std.proofs.Common.{SomeIff, int_div}
use Rattle.std.proofs.lemmas.Int.{to_z-of_z}
use Rattle.std.specs.Int.{w64, CanDivide}
use Rattle.machine_numbers.proofs.lemmas.cil_arithmetic.Exact.{divided_by}
use Rattle.machine_numbers.proofs.cil_arithmetic.int64.divided.Goals as goal

pub returns : goal.returns
returns c =
    let h : SomeIff c.checked_div.result (CanDivide w64 c.args.a c.args.b) (int_div c.args.a c.args.b) =
    rw (to_z-of_z w64 c.args.a c.ranges.a, to_z-of_z w64 c.args.b c.ranges.b) at c.checked_div.ensures in
    divided_by w64 c.args.a c.args.b c.checked_div.result c.or_overflow.result c.if-b-eq0.false h c.or_overflow.ensures
