-- Branches (III.3.5 to III.3.18, III.3.66). One that leaves a try block or a handler, or enters a handler, is stuck.
use Rattle.std.specs.Prelude.{ℕ, pos, List, slice_get, ◌==◌, ◌||◌, Bool, true, false, not, Option, Some, None, if◌then◌else◌}
use Rattle.std.specs.Int.{w32, cast_unsigned}
use Rattle.std.specs.Ordering.{int_eq}
use Rattle.il_base.specs.declared.opcode.TheConstants.{BRFALSE, BRFALSE_S, BRTRUE, BRTRUE_S, BEQ, BEQ_S, BGE, BGE_S, BGT, BGT_S, BLE, BLE_S, BLT, BLT_S, BNE_UN, BNE_UN_S, BGE_UN, BGE_UN_S, BGT_UN, BGT_UN_S, BLE_UN, BLE_UN_S, BLT_UN, BLT_UN_S}
use Rattle.il_base.specs.declared.cil_values.value.Value.{Value}
use Rattle.il_base.specs.declared.cil_values.value.Value.TheVariants as value
use Rattle.il_base.specs.declared.cil_values.resolved.Instruction.{Instruction}
use Rattle.il_base.specs.declared.cil_values.resolved.Use.TheVariants.{Target as target, Targets as targets}
use Rattle.il_base.specs.declared.cil_values.state.State.{State}
use Rattle.rules.specs.step_rules.Next.{Next}
use Rattle.rules.specs.step_rules.Words.{Form, Here, stuck, given, popped, goes, branches}
use Rattle.rules.specs.step_rules.Comparisons.{Test, equal, unequal, less, less_unsigned, greater, greater_unsigned_numbers, at_least, at_least_unsigned, at_most, at_most_unsigned, test}

-- `br` (III.3.15)
unfoldable pub branch : Form
branch q here i s = elim i.operand [ target to ↦ branches here i to s.top.stack s | _ ↦ stuck s ]

-- a conditional branch: to the target where the condition holds, else to the next instruction
abbrev pub branch_on : Here → Instruction → ℕ → List Value → State → Bool → Next
branch_on here i to stack s true = branches here i to stack s
branch_on here i to stack s false = goes here i stack s

-- a value as a condition: null and 0 are false, other references and numbers true (III.3.17); a struct or a handle is neither
unfoldable pub truth : Value → Option Bool
truth value.Null = Some false
truth (value.I4 n) = Some (not (int_eq n (pos 0)))
truth (value.I8 n) = Some (not (int_eq n (pos 0)))
truth (value.Native n) = Some (not (int_eq n (pos 0)))
truth (value.Object a) = Some true
truth (value.Pointer p) = Some true
truth _ = None

abbrev pub is_either : ℕ → ℕ → ℕ → Bool
is_either opcode long short = opcode == long || opcode == short

-- the test of a branch on two operands (III.3.5 to III.3.14)
unfoldable pub test_of : ℕ → Option Test
test_of opcode =
    if is_either opcode BEQ BEQ_S then Some equal
    else if is_either opcode BGE BGE_S then Some at_least
    else if is_either opcode BGT BGT_S then Some greater
    else if is_either opcode BLE BLE_S then Some at_most
    else if is_either opcode BLT BLT_S then Some less
    else if is_either opcode BNE_UN BNE_UN_S then Some unequal
    else if is_either opcode BGE_UN BGE_UN_S then Some at_least_unsigned
    else if is_either opcode BGT_UN BGT_UN_S then Some greater_unsigned_numbers
    else if is_either opcode BLE_UN BLE_UN_S then Some at_most_unsigned
    else if is_either opcode BLT_UN BLT_UN_S then Some less_unsigned
    else None

-- `brtrue` and `brfalse` (III.3.17, III.3.18)
abbrev pub branch_truth : Here → Instruction → ℕ → State → (Bool → Bool) → Next
branch_truth here i to s wanted = popped s.top.stack s (λ v stack. given (truth v) s (λ b. branch_on here i to stack s (wanted b)))

abbrev pub branch_test : Here → Instruction → ℕ → State → Test → Next
branch_test here i to s t =
    popped s.top.stack s (λ b below. popped below s (λ a stack. given (test t a b) s (branch_on here i to stack s)))

abbrev pub same : Bool → Bool
same b = b

abbrev pub branch_to : Here → Instruction → State → ℕ → Next
branch_to here i s to =
    if is_either i.opcode BRTRUE BRTRUE_S then branch_truth here i to s same
    else if is_either i.opcode BRFALSE BRFALSE_S then branch_truth here i to s not
    else given (test_of i.opcode) s (branch_test here i to s)

unfoldable pub branch_if : Form
branch_if q here i s = elim i.operand [ target to ↦ branch_to here i s to | _ ↦ stuck s ]

-- `switch` (III.3.66): of an int32, taken as unsigned; a number beyond the targets goes on
abbrev pub switch_to : Here → Instruction → List Value → State → Option ℕ → Next
switch_to here i stack s None = goes here i stack s
switch_to here i stack s (Some to) = branches here i to stack s

abbrev pub switch_on : Here → Instruction → List ℕ → List Value → State → Value → Next
switch_on here i tos stack s (value.I4 n) = switch_to here i stack s (slice_get tos (cast_unsigned w32 n))
switch_on here i tos stack s _ = stuck s

unfoldable pub switch : Form
switch q here i s = elim i.operand [ targets tos ↦ popped s.top.stack s (λ v stack. switch_on here i tos stack s v) | _ ↦ stuck s ]
