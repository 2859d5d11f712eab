-- What the writer's steps need of the spelling.
use Rattle.std.proofs.Common.{◌≡◌, ℕ, ◌+◌, ◌-◌, ◌<◌, ◌≤◌, ◌^◌, List, [], ◌∷◌, ◌++◌, length, replicate, All, pos, ◌-ℤ◌, ap, sym, subst, ◌∙◌, append_assoc, arith}
use Rattle.std.proofs.lemmas.List.{replicate_more}
use Rattle.std.specs.List.{AllByRecursion}
use Rattle.std.proofs.lemmas.List.Elements.{All-from_recursion}
use Rattle.il_base.specs.declared.body.Instr.{Instr}
use Rattle.il_base.specs.declared.body.Operand.{Operand}
use Rattle.il_base.specs.declared.body.Operand.TheVariants as operand
use Rattle.il_base.specs.declared.body_grammar.body.Inline.{Inline}
use Rattle.il_base.specs.declared.body_grammar.body.Inline.TheVariants.{InlineNone, FixedSlot, FixedNumber, ShortInlineVar, InlineVar, ShortInlineI, InlineI, InlineI8, InlineTok, ShortInlineBrTarget, InlineBrTarget, InlineSwitch}
use Rattle.il_base.specs.body_grammar.Opcodes.{kind_of}
use Rattle.il_base.specs.body_grammar.BodySpelling.{IsOperand, IsCode, inline_in, opcode_size, instr_bytes, targets_fit}

-- one zero more
pub zeros_more : (place i : ℕ) (zeros bs : List ℕ) → place ≤ i → zeros ≡ bs ++ replicate (i - place) 0 → zeros ++ 0 ∷ [] ≡ bs ++ replicate (i + 1 - place) 0
zeros_more place i zeros bs le e =
    let n : i - place + 1 ≡ i + 1 - place = omega arith in
    ap (λ (z : List ℕ). z ++ 0 ∷ []) e ∙ append_assoc bs (replicate (i - place) 0) (0 ∷ [])
    ∙ ap (λ (z : List ℕ). bs ++ z) (replicate_more (i - place) 0 ∙ ap (λ (m : ℕ). replicate m 0) n)

not_targets : (ts : List ℕ) (o : Operand) → targets_fit o → operand.Targets ts ≡ o → length ts < 2 ^ 32
not_targets ts o h e = subst (λ (x : Operand). targets_fit x) (sym e) h

operand_fits : (inl : Inline) (op next : ℕ) (o : Operand) → IsOperand inl op next o → targets_fit o
unfolding IsOperand
operand_fits inl op next operand.None h = tt
operand_fits inl op next (operand.Number z) h = tt
operand_fits inl op next (operand.Slot n) h = tt
operand_fits inl op next (operand.Token t) h = tt
operand_fits inl op next (operand.Target t) h = tt
operand_fits InlineNone op next (operand.Targets ts) h = not_targets ts operand.None tt h
operand_fits (FixedSlot first) op next (operand.Targets ts) h = not_targets ts (operand.Slot (op - first)) tt h
operand_fits (FixedNumber first) op next (operand.Targets ts) h = not_targets ts (operand.Number (pos op -ℤ pos first)) tt h
operand_fits InlineSwitch op next (operand.Targets ts) h = h.0
operand_fits ShortInlineVar op next (operand.Targets ts) h = absurd h
operand_fits InlineVar op next (operand.Targets ts) h = absurd h
operand_fits ShortInlineI op next (operand.Targets ts) h = absurd h
operand_fits InlineI op next (operand.Targets ts) h = absurd h
operand_fits InlineI8 op next (operand.Targets ts) h = absurd h
operand_fits InlineTok op next (operand.Targets ts) h = absurd h
operand_fits ShortInlineBrTarget op next (operand.Targets ts) h = absurd h
operand_fits InlineBrTarget op next (operand.Targets ts) h = absurd h

targets_fit_in : (at : ℕ) (is : List Instr) → IsCode at is → AllByRecursion (λ i. targets_fit i.operand) is
targets_fit_in at [] h = tt
targets_fit_in at (i ∷ is) h =
    (operand_fits (inline_in (kind_of i.opcode)) i.opcode (i.at + opcode_size i.opcode) i.operand h.1.operand, targets_fit_in (at + length (instr_bytes i)) is h.2)

pub targets_fit_all : (at : ℕ) (is : List Instr) → IsCode at is → All (λ i. targets_fit i.operand) is
targets_fit_all at is h = All-from_recursion (λ i. targets_fit i.operand) is (targets_fit_in at is h)
