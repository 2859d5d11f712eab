use Rattle.std.proofs.Common.{arith}
use Rattle.cil_core.proofs.lemmas.cil_console_members.Bits.{number_read}
use Rattle.cil_core.proofs.cil_console_members.elements.number_of_bits.Goals as goal

pub returns : goal.returns
returns c = number_read c.args.code c.args.n c.cast_signed.result c.number.result (omega arith) c.cast_signed.ensures c.number.ensures
