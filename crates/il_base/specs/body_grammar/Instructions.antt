-- Instructions (III.1.2): what stands after an opcode, and the instructions of a body one after another.
-- An IL offset counts bytes from the start of the code, a place counts bytes from the start of the body.
use Rattle.std.specs.Prelude.{ℕ, zero, suc, ◌+◌, ◌-◌, ◌*◌, ◌%◌, ◌^◌, ◌==◌, nat_lt, List, [], ◌∷◌, ◌++◌, length, drop, Option, Some, None, Result, Ok, pos, ◌-ℤ◌, option_map, option_and_then, if◌then◌else◌}
use Rattle.std.specs.Int.{w8, w32, w64, cast_signed}
use Rattle.byteorder.specs.Endian.{little_number}
use Rattle.il_base.specs.Bytes.{number_at}
use Rattle.il_base.specs.declared.body.Form.{Form}
use Rattle.il_base.specs.declared.body.Instr.{Instr}
use Rattle.il_base.specs.declared.body.Operand.{Operand}
use Rattle.il_base.specs.declared.body.Operand.TheVariants as operand
use Rattle.il_base.specs.declared.outside.TheConstants.{FLOAT, INSTRUCTION, BODY}
use Rattle.il_base.specs.declared.body_grammar.body.Fault.{Fault}
use Rattle.il_base.specs.declared.body_grammar.body.Inline.{Inline}
use Rattle.il_base.specs.declared.body_grammar.body.Inline.TheVariants.{InlineNone, FixedSlot, FixedNumber, ShortInlineVar, InlineVar, ShortInlineI, InlineI, InlineI8, InlineTok, ShortInlineBrTarget, InlineBrTarget, InlineSwitch}
use Rattle.il_base.specs.body_grammar.Opcodes.{kind_of, is_float}
use Rattle.il_base.specs.body_grammar.Faults.{◌>>=◌, fault, need}

-- the IL offset at a distance from the end of an instruction, modulo 2^32
abbrev pub target : ℕ → ℕ → ℕ
target end distance = (end + distance) % 2 ^ 32

-- a signed byte as a number modulo 2^32
abbrev pub extended : ℕ → ℕ
extended b = if nat_lt b 128 then b else b + 4294967040

-- so many targets of a switch that ends at an IL offset
abbrev pub targets : ℕ → ℕ → List ℕ → List ℕ
targets zero end bs = []
targets (suc n) end bs = target end (little_number 4 bs) ∷ targets n end (drop 4 bs)

-- the targets of a switch, which has a count of four bytes, and how many bytes they take with it
unfoldable pub switch_at : ℕ → List ℕ → Option (Operand × ℕ)
switch_at next bs =
    option_and_then (λ n.
    if nat_lt (length bs) (4 + 4 * n) then None
    else Some (operand.Targets (targets n (next + (4 + 4 * n)) (drop 4 bs)), 4 + 4 * n)) (number_at 4 bs 0)

-- the operand of an opcode, whose last byte ends at an IL offset, and how many bytes of those after the opcode it
-- takes. A target is relative to the end of the instruction.
unfoldable pub operand_at : Inline → ℕ → ℕ → List ℕ → Option (Operand × ℕ)
operand_at InlineNone op next bs = Some (operand.None, 0)
operand_at (FixedSlot first) op next bs = Some (operand.Slot (op - first), 0)
operand_at (FixedNumber first) op next bs = Some (operand.Number (pos op -ℤ pos first), 0)
operand_at ShortInlineVar op next bs = option_map (λ n. (operand.Slot n, 1)) (number_at 1 bs 0)
operand_at InlineVar op next bs = option_map (λ n. (operand.Slot n, 2)) (number_at 2 bs 0)
operand_at ShortInlineI op next bs = option_map (λ n. (operand.Number (cast_signed w8 n), 1)) (number_at 1 bs 0)
operand_at InlineI op next bs = option_map (λ n. (operand.Number (cast_signed w32 n), 4)) (number_at 4 bs 0)
operand_at InlineI8 op next bs = option_map (λ n. (operand.Number (cast_signed w64 n), 8)) (number_at 8 bs 0)
operand_at InlineTok op next bs = option_map (λ n. (operand.Token n, 4)) (number_at 4 bs 0)
operand_at ShortInlineBrTarget op next bs = option_map (λ n. (operand.Target (target (next + 1) (extended n)), 1)) (number_at 1 bs 0)
operand_at InlineBrTarget op next bs = option_map (λ n. (operand.Target (target (next + 4) n), 4)) (number_at 4 bs 0)
operand_at InlineSwitch op next bs = switch_at next bs

-- the opcode at the front and how many bytes it has: two where the first is fe
unfoldable pub opcode_at : ℕ → List ℕ → Result (ℕ × ℕ) Fault
opcode_at place bs =
    need (number_at 1 bs 0) (fault place BODY) >>= λ first.
    if first == 254 then (need (number_at 1 bs 1) (fault place BODY) >>= λ second. Ok (65024 + second, 2))
    else Ok (first, 1)

-- the form and the inline argument of an opcode
unfoldable pub kind_at : ℕ → ℕ → Result (Form × Inline) Fault
kind_at place op = need (kind_of op) (fault place (if is_float op then FLOAT else INSTRUCTION))

-- the instruction at the front of the bytes, by its IL offset and its place, and how many bytes it takes
unfoldable pub instr_at : ℕ → ℕ → List ℕ → Result (Instr × ℕ) Fault
instr_at at place bs =
    opcode_at place bs >>= λ op.
    kind_at place op.0 >>= λ kind.
    need (operand_at kind.1 op.0 (at + op.1) (drop op.1 bs)) (fault place BODY) >>= λ o.
    Ok (record { at = at; form = kind.0; opcode = op.0; operand = o.0 }, op.1 + o.1)

-- The instructions to the end of the bytes, after those that stand before an IL offset; base is the place of the
-- code. Each takes a byte at least, so a bound on their number is the number of bytes.
unfoldable pub code_after : ℕ → ℕ → ℕ → List Instr → List ℕ → Result (List Instr) Fault
code_after bound base at before [] = Ok before
code_after zero base at before (b ∷ bs) = Ok before
code_after (suc n) base at before (b ∷ bs) =
    instr_at at (base + at) (b ∷ bs) >>= λ i.
    code_after n base (at + i.1) (before ++ i.0 ∷ []) (drop i.1 (b ∷ bs))

abbrev pub code_at : ℕ → List ℕ → Result (List Instr) Fault
code_at base bs = code_after (length bs) base 0 [] bs
