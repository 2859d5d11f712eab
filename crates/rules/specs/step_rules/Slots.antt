-- Arguments, locals, constants and the evaluation stack (III.3.33 to III.3.63).
use Rattle.std.specs.Prelude.{ℕ, zero, suc, List, [], ◌∷◌, Option, Some, slice_get, if◌then◌else◌}
use Rattle.std.specs.Option.{option_and_then, is_some}
use Rattle.std.specs.Int.{w32, w64}
use Rattle.il_base.specs.declared.world_model.expr.TypeExpr.{TypeExpr}
use Rattle.il_base.specs.declared.world_model.expr.TypeExpr as expr
use Rattle.il_base.specs.declared.cil_values.value.Value.{Value}
use Rattle.il_base.specs.declared.cil_values.value.Value.TheVariants as value
use Rattle.il_base.specs.declared.cil_values.path.Path.{Path}
use Rattle.il_base.specs.declared.cil_values.path.Root.{Root}
use Rattle.il_base.specs.declared.cil_values.path.Root.TheVariants as root
use Rattle.il_base.specs.declared.cil_values.resolved.Instruction.{Instruction}
use Rattle.il_base.specs.declared.cil_values.definition.Signature.{Signature}
use Rattle.il_base.specs.declared.cil_values.resolved.Use.TheVariants.{Slot as slot, Number as number}
use Rattle.rules.specs.step_rules.Queries.{Queries}
use Rattle.il_base.specs.declared.cil_values.state.State.{State}
use Rattle.il_base.specs.declared.cil_values.frame.Frame.{Frame}
use Rattle.rules.specs.step_rules.Next.{Next}
use Rattle.rules.specs.step_rules.Words.{Form, Here, stuck, given, required, popped, goes, good}
use Rattle.rules.specs.step_rules.Closing.{closed_slot}
use Rattle.rules.specs.step_rules.Integers.{fits_signed}
use Rattle.rules.specs.step_rules.Stores.{fits, is_value}
use Rattle.rules.specs.step_rules.Places.{set_arg, set_local}

-- ---- the types of slots

abbrev pub closed_here : Queries → Here → TypeExpr → Option TypeExpr
closed_here q here e = closed_slot q here.targs here.margs e

-- `this` of a value type is a pointer (I.8.9.7)
unfoldable pub this_type : Queries → TypeExpr → TypeExpr
this_type q owner = if is_value q owner then expr.ByRef owner else owner

-- an argument's type by its number
abbrev pub with_this : Queries → TypeExpr → ℕ → List TypeExpr → (TypeExpr → Option TypeExpr) → Option TypeExpr
with_this q owner zero params close = Some (this_type q owner)
with_this q owner (suc k) params close = option_and_then close (slice_get params k)

abbrev pub arg_type_in : Queries → Here → TypeExpr → ℕ → Signature → Option TypeExpr
arg_type_in q here owner k sig =
    if sig.this then with_this q owner k sig.params (closed_here q here) else option_and_then (closed_here q here) (slice_get sig.params k)

unfoldable pub arg_type : Queries → Here → Frame → ℕ → Option TypeExpr
arg_type q here f k = option_and_then (arg_type_in q here f.method.owner k) (good here.method.signature)

unfoldable pub local_type : Queries → Here → ℕ → Option TypeExpr
local_type q here k = option_and_then (λ types. option_and_then (closed_here q here) (slice_get types k)) (good here.code.locals)

-- ---- loads, addresses and stores

-- `ldarg`, `ldloc` (III.3.38, III.3.43): a slot that isn't there is stuck
abbrev pub load_slot : Here → Instruction → State → List Value → ℕ → Next
load_slot here i s slots k = given (slice_get slots k) s (λ v. goes here i (v ∷ s.top.stack) s)

unfoldable pub load_arg : Form
load_arg q here i s = elim i.operand [ slot k ↦ load_slot here i s s.top.args k | _ ↦ stuck s ]

unfoldable pub load_local : Form
load_local q here i s = elim i.operand [ slot k ↦ load_slot here i s s.top.locals k | _ ↦ stuck s ]

abbrev pub path_to : Root → TypeExpr → Path
path_to r e = record { root = r; steps = []; of = e }

-- `ldarga`, `ldloca` (III.3.39, III.3.44)
abbrev pub address : Here → Instruction → State → List Value → ℕ → Root → Option TypeExpr → Next
address here i s slots k r typ =
    required (is_some (slice_get slots k)) s (given typ s (λ e. goes here i (value.Pointer (path_to r e) ∷ s.top.stack) s))

unfoldable pub address_arg : Form
address_arg q here i s =
    elim i.operand [ slot k ↦ address here i s s.top.args k (root.Arg s.top.number k) (arg_type q here s.top k) | _ ↦ stuck s ]

unfoldable pub address_local : Form
address_local q here i s =
    elim i.operand [ slot k ↦ address here i s s.top.locals k (root.Local s.top.number k) (local_type q here k) | _ ↦ stuck s ]

-- `starg`, `stloc` (III.3.61, III.3.63): as the slot keeps the value
abbrev pub store_slot : Queries → Here → Instruction → State → List Value → ℕ → Option TypeExpr → (Value → Frame → Frame) → Next
store_slot q here i s slots k typ put =
    required (is_some (slice_get slots k)) s (given typ s (λ e. popped s.top.stack s (λ v stack.
    given (fits q e v) s (λ w. goes here i stack (record s { top = put w s.top })))))

unfoldable pub store_arg : Form
store_arg q here i s =
    elim i.operand [ slot k ↦ store_slot q here i s s.top.args k (arg_type q here s.top k) (set_arg k) | _ ↦ stuck s ]

unfoldable pub store_local : Form
store_local q here i s =
    elim i.operand [ slot k ↦ store_slot q here i s s.top.locals k (local_type q here k) (set_local k) | _ ↦ stuck s ]

-- ---- constants and the stack

abbrev pub pushes : Here → Instruction → Value → State → Next
pushes here i v s = goes here i (v ∷ s.top.stack) s

-- `nop` (III.3.51)
unfoldable pub nop : Form
nop q here i s = goes here i s.top.stack s

-- `ldnull` (III.3.45)
unfoldable pub load_null : Form
load_null q here i s = pushes here i value.Null s

-- `ldc.i4`, `ldc.i8` (III.3.40)
unfoldable pub load_int32 : Form
load_int32 q here i s = elim i.operand [ number n ↦ required (fits_signed w32 n) s (pushes here i (value.I4 n) s) | _ ↦ stuck s ]

unfoldable pub load_int64 : Form
load_int64 q here i s = elim i.operand [ number n ↦ required (fits_signed w64 n) s (pushes here i (value.I8 n) s) | _ ↦ stuck s ]

-- `dup` (III.3.33)
unfoldable pub duplicate : Form
duplicate q here i s = popped s.top.stack s (λ v stack. goes here i (v ∷ v ∷ stack) s)

-- `pop` (III.3.54)
unfoldable pub pop : Form
pop q here i s = popped s.top.stack s (λ v stack. goes here i stack s)
