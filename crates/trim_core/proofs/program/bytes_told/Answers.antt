use Rattle.std.proofs.Common.{arith}
use Rattle.trim_core.proofs.program.bytes_told.Goals as goal

pub returns : goal.returns
returns c = λ i. let h = c.type_inv.bytes i in omega arith
