-- The words in which each form of instruction is written. A continuation goes on with the result of a look-up or of the stack; a
-- missing one ends the run.
use Rattle.std.specs.Prelude.{ℕ, nat_eq, nat_le, nat_lt, pos, List, [], ◌∷◌, ◌++◌, length, take, drop, reverse, Bool, true, false, not, ◌&&◌, ◌||◌, Option, Some, None, slice_get, find, if◌then◌else◌}
use Rattle.std.specs.List.{list_all}
use Rattle.std.specs.Option.{option_and_then}
use Rattle.il_base.specs.declared.world_model.known.Known.{Known}
use Rattle.il_base.specs.declared.world_model.known.Known.TheVariants.{Good, Bad}
use Rattle.il_base.specs.declared.world_model.expr.TypeExpr.{TypeExpr, out-TypeExpr}
use Rattle.il_base.specs.declared.world_model.expr.TypeExpr.TheOpen.{TypeExpr-F}
use Rattle.il_base.specs.declared.cil_values.value.Value.{Value}
use Rattle.il_base.specs.declared.cil_values.value.Value.TheVariants.{I4}
use Rattle.il_base.specs.declared.cil_values.object.Obj.{Obj}
use Rattle.il_base.specs.declared.cil_values.end.End.{End}
use Rattle.il_base.specs.declared.cil_values.end.End.TheVariants.{Ended, Threw, Stopped, Stuck}
use Rattle.il_base.specs.declared.cil_values.definition.Method.{Method}
use Rattle.il_base.specs.declared.cil_values.resolved.Code.{Code}
use Rattle.il_base.specs.declared.cil_values.resolved.Clause.{Clause}
use Rattle.il_base.specs.declared.cil_values.resolved.Instruction.{Instruction}
use Rattle.rules.specs.step_rules.Queries.{Queries}
use Rattle.il_base.specs.declared.cil_values.state.State.{State}
use Rattle.il_base.specs.declared.cil_values.frame.Frame.{Frame}
use Rattle.il_base.specs.declared.cil_values.frame.Prefix.TheVariants.{None as none}
use Rattle.rules.specs.step_rules.Next.{Next, went, over}

-- ---- ends

-- the code breaks a rule at this instruction
abbrev pub stuck : State → Next
stuck s = over (Stuck s.top.method.method s.top.at)

-- an operand, a place that is gone, a member that ends the run, or a limit ends the run at this instruction
abbrev pub stopped : State → Next
stopped s = over (Stopped s.top.method.method s.top.at)

-- an end of the run because of the code, at the instruction of a state
abbrev pub end_at : State → End → End
end_at s (Stuck m at) = Stuck s.top.method.method s.top.at
end_at s (Stopped m at) = Stopped s.top.method.method s.top.at
end_at s (Ended code) = Ended code
end_at s (Threw kind message) = Threw kind message

abbrev pub ends_at : State → Next → Next
ends_at s (went t bytes) = went t bytes
ends_at s (over e) = over (end_at s e)

-- ---- going on with what is there

abbrev pub given : {A : Type 0} → Option A → State → (A → Next) → Next
given None s f = stuck s
given (Some x) s f = f x

abbrev pub had : {A : Type 0} → Option A → State → (A → Next) → Next
had None s f = stopped s
had (Some x) s f = f x

abbrev pub known : {A : Type 0} → Known A → State → (A → Next) → Next
known (Good x) s f = f x
known (Bad why) s f = stopped s

abbrev pub required : Bool → State → Next → Next
required true s next = next
required false s next = stuck s

abbrev pub within : Bool → State → Next → Next
within true s next = next
within false s next = stopped s

abbrev pub popped : List Value → State → (Value → List Value → Next) → Next
popped [] s f = stuck s
popped (v ∷ stack) s f = f v stack

-- the top n values, the lowest of them first, and what is below them
unfoldable pub taken : ℕ → List Value → Option (List Value × List Value)
taken n stack = if nat_le n (length stack) then Some (reverse (take n stack), drop n stack) else None

-- ---- numbers

-- what a comparison gives (III.3.21)
abbrev pub truth_value : Bool → Value
truth_value true = I4 (pos 1)
truth_value false = I4 (pos 0)

-- ---- the running method

-- the body that runs, with the closed arguments of its type and of itself
pub record Here : Type 0 where
  pub method : Method
  pub code : Code
  pub targs : List TypeExpr
  pub margs : List TypeExpr

-- one form of instruction, or one instruction
abbrev pub Form : Type 0
Form = Queries → Here → Instruction → State → Next

abbrev pub args_in : TypeExpr-F TypeExpr → List TypeExpr
args_in (TypeExpr-F.Inst t args) = args
args_in _ = []

-- the arguments of a generic type
unfoldable pub args_of : TypeExpr → List TypeExpr
args_of e = args_in (out-TypeExpr e)

abbrev pub good : {A : Type 0} → Known A → Option A
good (Good x) = Some x
good (Bad why) = None

abbrev pub here_in : Frame → Method → Code → Here
here_in f m code = record { method = m; code = code; targs = args_of f.method.owner; margs = f.method.args }

-- the body that a frame runs, with its arguments
unfoldable pub here_of : Queries → Frame → Option Here
here_of q f = option_and_then (λ m. option_and_then (λ body. option_and_then (λ code. Some (here_in f m code)) (good body)) m.body) (q.method f.method.method.0)

-- the instruction that begins at an offset
unfoldable pub instruction_at : Code → ℕ → Option Instruction
instruction_at code at = find (λ i. nat_eq i.at at) code.code

-- ---- blocks (I.12.4.2.5)

abbrev pub covers : ℕ → ℕ → ℕ → Bool
covers from end at = nat_le from at && nat_lt at end

abbrev pub in_try : Clause → ℕ → Bool
in_try c at = covers c.try_at c.try_end at

abbrev pub in_handler : Clause → ℕ → Bool
in_handler c at = covers c.at c.end at

abbrev pub implies : Bool → Bool → Bool
implies a b = not a || b

-- control from `at` to `to` doesn't leave the clause's handler, and doesn't enter it
abbrev pub stays_in_handler : Clause → ℕ → ℕ → Bool
stays_in_handler c at to = implies (in_handler c at) (in_handler c to)

abbrev pub enters_no_handler : Clause → ℕ → ℕ → Bool
enters_no_handler c at to = implies (in_handler c to) (in_handler c at)

abbrev pub may_pass : ℕ → ℕ → Clause → Bool
may_pass at to c = implies (in_try c at) (in_try c to) && stays_in_handler c at to && enters_no_handler c at to

-- whether a branch, or the fall to the next instruction, may go from one offset to another: it leaves no try block and no
-- handler, and enters no handler
unfoldable pub may_go : Code → ℕ → ℕ → Bool
may_go code at to = list_all (may_pass at to) code.clauses

-- ---- going on

-- the top frame at an offset, with this evaluation stack and no prefix
abbrev pub at_with : ℕ → List Value → Frame → Frame
at_with at stack f = record f { at = at; stack = stack; prefix = none }

abbrev pub moved : ℕ → List Value → State → State
moved at stack s = record s { top = at_with at stack s.top }

-- to another offset, as a branch goes
unfoldable pub branches : Here → Instruction → ℕ → List Value → State → Next
branches here i to stack s = required (may_go here.code i.at to) s (went (moved to stack s) [])

-- to the next instruction, with these bytes printed
unfoldable pub goes_with : Here → Instruction → List Value → State → List ℕ → Next
goes_with here i stack s bytes = required (may_go here.code i.at i.next) s (went (moved i.next stack s) bytes)

abbrev pub goes : Here → Instruction → List Value → State → Next
goes here i stack s = goes_with here i stack s []

-- ---- the heap

-- a new object, and its number
abbrev pub made : Obj → State → (ℕ → State → Next) → Next
made o s f = f (length s.heap) (record s { heap = s.heap ++ o ∷ [] })

abbrev pub object_at : State → ℕ → Option Obj
object_at s a = slice_get s.heap a
