-- How many bytes an operand takes after its opcode (III.1.2); lists are counted modulo 2^32.
use Rattle.std.specs.Prelude.{ℕ, ◌+◌, ◌*◌, ◌%◌, length}
use Rattle.il_base.specs.declared.body.Operand.{Operand}
use Rattle.il_base.specs.declared.body.Operand.TheVariants as operand
use Rattle.il_base.specs.declared.body_grammar.body.Inline.{Inline}
use Rattle.il_base.specs.declared.body_grammar.body.Inline.TheVariants.{ShortInlineVar, InlineVar, ShortInlineI, InlineI, InlineI8, InlineTok, ShortInlineBrTarget, InlineBrTarget, InlineSwitch}

abbrev pub operand_size : Inline → Operand → ℕ
operand_size ShortInlineVar (operand.Slot n) = 1
operand_size InlineVar (operand.Slot n) = 2
operand_size ShortInlineI (operand.Number z) = 1
operand_size InlineI (operand.Number z) = 4
operand_size InlineI8 (operand.Number z) = 8
operand_size InlineTok (operand.Token t) = 4
operand_size ShortInlineBrTarget (operand.Target t) = 1
operand_size InlineBrTarget (operand.Target t) = 4
operand_size InlineSwitch (operand.Targets ts) = 4 + 4 * (length ts % 4294967296)
operand_size _ _ = 0
