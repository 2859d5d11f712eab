-- How many bytes an instruction takes.
use Rattle.std.proofs.Common.{◌≡◌, ℕ, suc, ◌+◌, ◌*◌, ◌%◌, Bool, true, false, cond, List, [], ◌∷◌, length, refl, ap, ◌∙◌, arith, length-append}
use Rattle.std.specs.Prelude.{nat_lt}
use Rattle.byteorder.specs.Endian.{little_bytes}
use Rattle.il_base.specs.declared.body.Instr.{Instr}
use Rattle.il_base.specs.declared.body.Operand.{Operand}
use Rattle.il_base.specs.declared.body.Operand.TheVariants as operand
use Rattle.il_base.specs.declared.body_grammar.body.Inline.{Inline}
use Rattle.il_base.specs.declared.body_grammar.body.Inline.TheVariants.{ShortInlineVar, InlineVar, ShortInlineI, InlineI, InlineI8, InlineTok, ShortInlineBrTarget, InlineBrTarget, InlineSwitch}
use Rattle.il_base.specs.body_grammar.Opcodes.{kind_of}
use Rattle.il_base.specs.body_grammar.BodySpelling.{distance, distances, operand_bytes, inline_in, opcode_size, opcode_bytes, instr_bytes}
use Rattle.il_code.specs.Lengths.{operand_size}

length_distances : (end : ℕ) (ts : List ℕ) → length (distances end ts) ≡ 4 * length ts
length_distances end [] = refl
length_distances end (t ∷ ts) =
    length-append (little_bytes 4 (distance end t)) (distances end ts) ∙ next (length (distances end ts)) (length ts) (length_distances end ts)
  where
    next : (n k : ℕ) → n ≡ 4 * k → 4 + n ≡ 4 * suc k
    next n k e = omega (arith, e)

switch_length : (n : ℕ) → (4 + 4 * n) % 4294967296 ≡ (4 + 4 * (n % 4294967296)) % 4294967296
switch_length n = omega arith

operand_length : (inline : Inline) (next : ℕ) (o : Operand) → length (operand_bytes inline next o) % 4294967296 ≡ operand_size inline o % 4294967296
unfolding operand_bytes
operand_length ShortInlineVar next (operand.Slot n) = refl
operand_length InlineVar next (operand.Slot n) = refl
operand_length ShortInlineI next (operand.Number z) = refl
operand_length InlineI next (operand.Number z) = refl
operand_length InlineI8 next (operand.Number z) = refl
operand_length InlineTok next (operand.Token t) = refl
operand_length ShortInlineBrTarget next (operand.Target t) = refl
operand_length InlineBrTarget next (operand.Target t) = refl
operand_length InlineSwitch next (operand.Targets ts) =
    ap (λ (n : ℕ). n % 4294967296)
    (length-append (little_bytes 4 (length ts % 4294967296)) (distances (next + (4 + 4 * length ts)) ts) ∙ ap (λ (n : ℕ). 4 + n) (length_distances (next + (4 + 4 * length ts)) ts))
    ∙ switch_length (length ts)
operand_length _ next _ = refl

opcode_length : (op : ℕ) → length (opcode_bytes op) ≡ opcode_size op
unfolding opcode_bytes
opcode_length op = by_case (nat_lt op 256)
  where
    by_case : (b : Bool) → length (cond b (op ∷ []) (254 ∷ op % 256 ∷ [])) ≡ cond b 1 2
    by_case true = refl
    by_case false = refl

pub instr_length : (i : Instr) → length (instr_bytes i) % 4294967296 ≡ (opcode_size i.opcode + operand_size (inline_in (kind_of i.opcode)) i.operand) % 4294967296
unfolding instr_bytes
instr_length i =
    ap (λ (n : ℕ). n % 4294967296)
    (length-append (opcode_bytes i.opcode) (operand_bytes (inline_in (kind_of i.opcode)) (i.at + opcode_size i.opcode) i.operand)
    ∙ ap (λ (n : ℕ). n + length (operand_bytes (inline_in (kind_of i.opcode)) (i.at + opcode_size i.opcode) i.operand)) (opcode_length i.opcode))
    ∙ sum (opcode_size i.opcode) (length (operand_bytes (inline_in (kind_of i.opcode)) (i.at + opcode_size i.opcode) i.operand)) (operand_size (inline_in (kind_of i.opcode)) i.operand)
    (operand_length (inline_in (kind_of i.opcode)) (i.at + opcode_size i.opcode) i.operand)
  where
    sum : (a b d : ℕ) → b % 4294967296 ≡ d % 4294967296 → (a + b) % 4294967296 ≡ (a + d) % 4294967296
    sum a b d e = omega (arith, e)
