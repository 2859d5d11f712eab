use Rattle.std.proofs.Common.{arith}
use Rattle.exec_command.proofs.DigitLemmas.{small_before}
use Rattle.exec_command.proofs.words.value_of.Goals as goal

pub with_digit-value-requires-clause-small : goal.with_digit-value-requires-clause-small
with_digit-value-requires-clause-small c = small_before c.loop-b.b-index c.loop-b.value (omega arith) c.loop-b.invariant.1
