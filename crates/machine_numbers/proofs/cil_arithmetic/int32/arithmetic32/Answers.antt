use Rattle.std.proofs.Common.{◌∙◌, sym, arith}
use Rattle.std.specs.Int.{w32}
use Rattle.machine_numbers.specs.cil_arithmetic.Answers.{checked}
use Rattle.machine_numbers.proofs.lemmas.cil_arithmetic.Exact.{passed}
use Rattle.machine_numbers.proofs.lemmas.cil_arithmetic.Opcodes.{plain_none}
use Rattle.machine_numbers.proofs.cil_arithmetic.int32.arithmetic32.Goals as goal

pub returns-in_default : goal.returns-in_default
returns-in_default c =
    c.checked.ensures ∙ passed w32 (checked c.args.code w32) c.args.a c.args.b c.ranges.a c.ranges.b ∙ sym (plain_none c.args.code w32 c.args.a c.args.b (omega arith) (omega arith) (omega arith) (omega arith) (omega arith) (omega arith) (omega arith) (omega arith) (omega arith) (omega arith))
