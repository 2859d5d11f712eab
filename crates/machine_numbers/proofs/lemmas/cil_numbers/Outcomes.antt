-- The forms by what their instructions come to.
use Rattle.std.proofs.Common.{◌≡◌, ℕ, ℤ, List, ◌∷◌, Bool, true, false, Option, Some, None, refl, sym, ap, subst, ◌∙◌, if◌then◌else◌, option_map, option_and_then}
use Rattle.il_base.specs.declared.cil_values.value.Value.{Value}
use Rattle.il_base.specs.declared.cil_values.resolved.Instruction.{Instruction}
use Rattle.il_base.specs.declared.cil_values.state.State.{State}
use Rattle.machine_numbers.specs.declared.cil_arithmetic.outcome.Outcome.{Outcome}
use Rattle.machine_numbers.specs.cil_numbers.Outcomes.{binary_by, computed, finished, two_over, one_over, with_stack}
use Rattle.machine_numbers.specs.cil_arithmetic.Outcomes.{gives, outcome_by}
use Rattle.machine_numbers.specs.cil_conversions.Outcomes.{converted_by}
use Rattle.rules.specs.step_rules.Queries.{Queries}
use Rattle.rules.specs.step_rules.Next.{Next}
use Rattle.rules.specs.step_rules.Words.{Here, given, goes, popped, truth_value}
use Rattle.rules.specs.step_rules.Comparisons.{Numbers, Test, numbers, test}
use Rattle.rules.specs.step_rules.Numbers as rules
use Rattle.rules.specs.step_rules.Numbers.{Answer, is, raises, arithmetic, comparison, is_shift, shift, shift_count, compute_values, answered, Conversion, conversion, converted, operand_of, convert_by, binary, convert, unary, unary_of}
use Rattle.rules.specs.step_rules.Integers.{number}

one_by : (q : Queries) (here : Here) (i : Instruction) (stack : List Value) (s : State) (back : ℤ → Value) (a : Answer) → answered q here i stack s back a ≡ finished q here i stack s (outcome_by back a)
one_by q here i stack s back (is x) = refl
one_by q here i stack s back (raises name) = refl

answer_by : (q : Queries) (here : Here) (i : Instruction) (stack : List Value) (s : State) (n : Numbers) (a : Option Answer) → given a s (answered q here i stack s n.back) ≡ given (option_map (outcome_by n.back) a) s (finished q here i stack s)
answer_by q here i stack s n None = refl
answer_by q here i stack s n (Some (is x)) = refl
answer_by q here i stack s n (Some (raises name)) = refl

numbers_by : (q : Queries) (here : Here) (i : Instruction) (stack : List Value) (s : State) (n : Option Numbers) → given n s (rules.arithmetic_of q here i stack s) ≡ given (option_and_then (computed i.opcode) n) s (finished q here i stack s)
numbers_by q here i stack s None = refl
numbers_by q here i stack s (Some n) = answer_by q here i stack s n (arithmetic i.opcode n.width n.left n.right)

pushed_by : (q : Queries) (here : Here) (i : Instruction) (stack : List Value) (s : State) (v : Option Value) → given v s (λ v. goes here i (v ∷ stack) s) ≡ given (option_map gives v) s (finished q here i stack s)
pushed_by q here i stack s None = refl
pushed_by q here i stack s (Some v) = refl

shifts_by : (q : Queries) (here : Here) (i : Instruction) (stack : List Value) (s : State) (a : Value) (n : Option ℕ) → given n s (λ count. given (shift i.opcode a count) s (λ v. goes here i (v ∷ stack) s)) ≡ given (option_and_then (λ count. option_map gives (shift i.opcode a count)) n) s (finished q here i stack s)
shifts_by q here i stack s a None = refl
shifts_by q here i stack s a (Some n) = pushed_by q here i stack s (shift i.opcode a n)

truth_by : (q : Queries) (here : Here) (i : Instruction) (stack : List Value) (s : State) (b : Option Bool) → given b s (λ v. goes here i (truth_value v ∷ stack) s) ≡ given (option_map (λ yes. gives (truth_value yes)) b) s (finished q here i stack s)
truth_by q here i stack s None = refl
truth_by q here i stack s (Some b) = refl

either_by : (q : Queries) (here : Here) (i : Instruction) (stack : List Value) (s : State) (b : Bool) (x y : Next) (o p : Option Outcome) → x ≡ given o s (finished q here i stack s) → y ≡ given p s (finished q here i stack s) → (if b then x else y) ≡ given (if b then o else p) s (finished q here i stack s)
either_by q here i stack s true x y o p e f = e
either_by q here i stack s false x y o p e f = f

computed_by : (q : Queries) (here : Here) (i : Instruction) (stack : List Value) (s : State) (a b : Value) (t : Option Test) → compute_values q here i stack s a b t ≡ given (binary_by i.opcode a b t) s (finished q here i stack s)
computed_by q here i stack s a b (Some t) = truth_by q here i stack s (test t a b)
computed_by q here i stack s a b None = either_by q here i stack s (is_shift i.opcode) _ _ _ _ (shifts_by q here i stack s a (shift_count b)) (numbers_by q here i stack s (numbers a b))

-- `binary`, with its operands off the stack
pub binary_from : (q : Queries) (here : Here) (i : Instruction) (s : State) (a b : Value) (mid stack : List Value) → s.top.stack ≡ b ∷ mid → mid ≡ a ∷ stack → binary q here i s ≡ two_over q here i a b (with_stack stack s)
unfolding binary
binary_from q here i s a b mid stack e f =
    let P : List Value → Type 0 = λ vs. binary q here i (with_stack vs s) ≡ two_over q here i a b (with_stack stack s) in
    let whole : s.top.stack ≡ b ∷ a ∷ stack = e ∙ ap (λ (vs : List Value). b ∷ vs) f in
    subst P (sym whole) (computed_by q here i stack (with_stack (b ∷ a ∷ stack) s) a b (comparison i.opcode))

operand_by : (q : Queries) (here : Here) (i : Instruction) (stack : List Value) (s : State) (c : Conversion) (n : Option ℤ) → given n s (λ n. answered q here i stack s (number c.to) (converted c n)) ≡ given (option_map (λ n. outcome_by (number c.to) (converted c n)) n) s (finished q here i stack s)
operand_by q here i stack s c None = refl
operand_by q here i stack s c (Some n) = one_by q here i stack s (number c.to) (converted c n)

conversion_by : (q : Queries) (here : Here) (i : Instruction) (stack : List Value) (s : State) (v : Value) (c : Option Conversion) → given c s (convert_by q here i stack s v) ≡ given (option_and_then (converted_by v) c) s (finished q here i stack s)
conversion_by q here i stack s v None = refl
conversion_by q here i stack s v (Some c) = operand_by q here i stack s c (operand_of c.unsigned v)

-- `convert`, with its operand off the stack
pub convert_from : (q : Queries) (here : Here) (i : Instruction) (s : State) (v : Value) (stack : List Value) → s.top.stack ≡ v ∷ stack → convert q here i s ≡ one_over q here i v (with_stack stack s)
unfolding convert
convert_from q here i s v stack e =
    let P : List Value → Type 0 = λ vs. convert q here i (with_stack vs s) ≡ one_over q here i v (with_stack stack s) in
    subst P (sym e) (conversion_by q here i stack (with_stack (v ∷ stack) s) v (conversion i.opcode))

-- `neg` and `not`, with the operand off the stack
pub unary_from : (q : Queries) (here : Here) (i : Instruction) (s : State) (v : Value) (stack : List Value) (n : Next) → s.top.stack ≡ v ∷ stack → ((vs : List Value) → n ≡ given (unary_of i.opcode v) (with_stack vs s) (λ w. goes here i (w ∷ stack) (with_stack vs s))) → n ≡ unary q here i s
unfolding unary
unary_from q here i s v stack n e on =
    on s.top.stack ∙ sym (ap (λ (vs : List Value). popped vs s (λ v stack. given (unary_of i.opcode v) s (λ w. goes here i (w ∷ stack) s))) e)
