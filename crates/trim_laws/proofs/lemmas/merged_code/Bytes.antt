-- An instruction has as many bytes with another token (III.1.2): a token has four.
use Rattle.std.proofs.Common.{◌≡◌, ℕ, ◌+◌, length, refl, sym, ap, ◌∙◌, length-append}
use Rattle.byteorder.specs.Numbers.{length-bytes_low_first}
use Rattle.il_base.specs.declared.body.Form.{Form}
use Rattle.il_base.specs.declared.body.Instr.{Instr}
use Rattle.il_base.specs.declared.body.Operand.{Operand}
use Rattle.il_base.specs.declared.body.Operand.TheVariants as operand
use Rattle.il_base.specs.declared.world_model.record.AsmRec.{AsmRec}
use Rattle.il_base.specs.declared.body_grammar.body.Inline.{Inline}
use Rattle.il_base.specs.declared.body_grammar.body.Inline.TheVariants.{InlineTok}
use Rattle.il_base.specs.body_grammar.Opcodes.{kind_of}
use Rattle.il_base.specs.body_grammar.BodySpelling.{operand_bytes, inline_in, opcode_size, opcode_bytes, instr_bytes}
use Rattle.rules.specs.merge_rules.Refs.{Output}
use Rattle.rules.specs.merge_rules.Moved.{moved_operand, moved_instr}

token_bytes : (k : Inline) (next t u : ℕ) → length (operand_bytes k next (operand.Token t)) ≡ length (operand_bytes k next (operand.Token u))
unfolding operand_bytes
token_bytes InlineTok next t u = length-bytes_low_first 0 4 t ∙ sym (length-bytes_low_first 0 4 u)
token_bytes _ next t u = refl

module _ (o : Output) (a : ℕ) (rec : AsmRec) where
  operand_length : (k : Inline) (next : ℕ) (f : Form) (x : Operand) → length (operand_bytes k next (moved_operand o a rec f x)) ≡ length (operand_bytes k next x)
  operand_length k next f (operand.Token t) = token_bytes k next _ t
  operand_length k next f _ = refl

  pub instr_length : (i : Instr) → length (instr_bytes (moved_instr o a rec i)) ≡ length (instr_bytes i)
  unfolding instr_bytes
  instr_length i =
      let k : Inline = inline_in (kind_of i.opcode) in
      let next : ℕ = i.at + opcode_size i.opcode in
      length-append (opcode_bytes i.opcode) (operand_bytes k next (moved_operand o a rec i.form i.operand))
      ∙ ap (λ (n : ℕ). length (opcode_bytes i.opcode) + n) (operand_length k next i.form i.operand)
      ∙ sym (length-append (opcode_bytes i.opcode) (operand_bytes k next i.operand))
