use Rattle.std.proofs.Common.{SomeIff, int_rem}
use Rattle.std.proofs.lemmas.Int.{to_z-of_z}
use Rattle.std.specs.Int.{w64, CanDivide}
use Rattle.machine_numbers.proofs.lemmas.cil_arithmetic.Exact.{remainder_by}
use Rattle.machine_numbers.proofs.cil_arithmetic.int64.remainder.Goals as goal

pub returns : goal.returns
returns c =
    let h : SomeIff c.checked_rem.result (CanDivide w64 c.args.a c.args.b) (int_rem c.args.a c.args.b) =
    rw (to_z-of_z w64 c.args.a c.ranges.a, to_z-of_z w64 c.args.b c.ranges.b) at c.checked_rem.ensures in
    remainder_by w64 c.args.a c.args.b c.checked_rem.result c.or_overflow.result c.if-b-eq0.false h c.or_overflow.ensures
