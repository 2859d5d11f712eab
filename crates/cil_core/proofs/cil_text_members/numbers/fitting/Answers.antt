use Rattle.std.proofs.Common.{arith}
use Rattle.std.proofs.lemmas.Int.{ints}
use Rattle.cil_core.proofs.lemmas.cil_text_members.Ints.{fits_not, fits_well, negative_not, negative_well}
use Rattle.cil_core.proofs.cil_text_members.numbers.fitting.Goals as goal

pub returns-then-n-gt2147483648 : goal.returns-then-n-gt2147483648
returns-then-n-gt2147483648 c = rw c.if-negative.true (negative_not c.args.n (omega arith))

pub returns-else-n-gt2147483648 : goal.returns-else-n-gt2147483648
returns-else-n-gt2147483648 c = rw c.if-negative.true (negative_well c.args.n _ (omega arith) (omega (arith, ints)))

pub returns-then-n-gt2147483647 : goal.returns-then-n-gt2147483647
returns-then-n-gt2147483647 c = rw c.if-negative.false (fits_not c.args.n (omega arith))

pub returns-else-n-gt2147483647 : goal.returns-else-n-gt2147483647
returns-else-n-gt2147483647 c = rw c.if-negative.false (fits_well c.args.n _ (omega arith) (omega (arith, ints)))
