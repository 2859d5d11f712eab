-- Casts, boxes and handles (III.4.1, III.4.3, III.4.6, III.4.17, III.4.32, III.4.33).
use Rattle.std.specs.Prelude.{ℕ, List, ◌∷◌, ◌==◌, Bool, true, false, ◌||◌, Option, Some, None, if◌then◌else◌}
use Rattle.il_base.specs.declared.opcode.TheConstants.{CASTCLASS, UNBOX}
use Rattle.il_base.specs.declared.world_model.expr.TypeExpr.{TypeExpr, out-TypeExpr}
use Rattle.il_base.specs.declared.world_model.expr.TypeExpr.TheOpen.{TypeExpr-F}
use Rattle.il_base.specs.world_model.Exprs.{subst, same_expr}
use Rattle.il_base.specs.declared.core_table.names.CoreName.TheVariants.{InvalidCastException, NullReferenceException}
use Rattle.il_base.specs.declared.cil_values.value.Value.{Value}
use Rattle.il_base.specs.declared.cil_values.value.Value.TheVariants as value
use Rattle.il_base.specs.declared.cil_values.object.Obj.{Obj}
use Rattle.il_base.specs.declared.cil_values.object.Obj.TheVariants as object
use Rattle.il_base.specs.declared.cil_values.resolved.Instruction.{Instruction}
use Rattle.il_base.specs.declared.cil_values.resolved.Use.TheVariants.{Typ as typ, Method as method}
use Rattle.rules.specs.step_rules.Queries.{Queries}
use Rattle.il_base.specs.declared.cil_values.resolved.Use.TheVariants as used
use Rattle.il_base.specs.declared.cil_values.state.State.{State}
use Rattle.rules.specs.step_rules.Next.{Next}
use Rattle.rules.specs.step_rules.Words.{Form, Here, stuck, stopped, given, had, known, required, popped, goes, made, object_at}
use Rattle.rules.specs.step_rules.Closing.{closed, closed_field, plain, standing, is_sound, if_so}
use Rattle.rules.specs.step_rules.Stores.{fits, fits_reference, is_reference, is_value}
use Rattle.rules.specs.step_rules.Objects.{is_a}
use Rattle.rules.specs.step_rules.Raising.{raise}
use Rattle.rules.specs.step_rules.Dispatch.{path_into_box}

-- ---- `castclass` (III.4.3) and `isinst` (III.4.6)

abbrev pub cast_or : Here → Instruction → State → List Value → ℕ → Next → Bool → Next
cast_or here i s stack a other true = goes here i (value.Object a ∷ stack) s
cast_or here i s stack a other false = other

-- null stays null; an object of the type stays as it is
abbrev pub cast_with : Queries → Here → Instruction → State → TypeExpr → Value → List Value → Next → Next
cast_with q here i s e value.Null stack other = goes here i (value.Null ∷ stack) s
cast_with q here i s e (value.Object a) stack other = cast_or here i s stack a other (is_a q e (object_at s a))
cast_with q here i s e _ stack other = stuck s

abbrev pub cast_class : Queries → Here → Instruction → State → TypeExpr → Value → List Value → Next
cast_class q here i s e v stack = cast_with q here i s e v stack (raise q InvalidCastException s)

abbrev pub is_instance : Queries → Here → Instruction → State → TypeExpr → Value → List Value → Next
is_instance q here i s e v stack = cast_with q here i s e v stack (goes here i (value.Null ∷ stack) s)

abbrev pub casts : Queries → Here → Instruction → State → TypeExpr → Next
casts q here i s e =
    popped s.top.stack s (λ v stack. if i.opcode == CASTCLASS then cast_class q here i s e v stack else is_instance q here i s e v stack)

unfoldable pub cast : Form
cast q here i s = elim i.operand [ typ e ↦ closed q here e s (casts q here i s) | _ ↦ stuck s ]

-- ---- `box` (III.4.1)

abbrev pub boxes_value : Here → Instruction → State → TypeExpr → List Value → Value → Next
boxes_value here i s e stack v = made (object.Boxed e v) s (λ a t. goes here i (value.Object a ∷ stack) t)

-- `box`: a reference stays as it is
abbrev pub boxes : Queries → Here → Instruction → State → TypeExpr → Value → List Value → Next
boxes q here i s e v stack =
    if is_reference q e then given (fits_reference v) s (λ w. goes here i (w ∷ stack) s)
    else required (is_value q e) s (given (fits q e v) s (boxes_value here i s e stack))

unfoldable pub box : Form
box q here i s = elim i.operand [ typ e ↦ closed q here e s (λ c. popped s.top.stack s (boxes q here i s c)) | _ ↦ stuck s ]

-- ---- `unbox` (III.4.32) and `unbox.any` (III.4.33)

-- the value in a box of exactly a type: an enum isn't its underlying type
abbrev pub boxed_of : TypeExpr → Obj → Option Value
boxed_of e (object.Boxed of v) = if_so (same_expr of e) v
boxed_of e _ = None

abbrev pub or_invalid : Queries → State → Option Value → (Value → Next) → Next
or_invalid q s None f = raise q InvalidCastException s
or_invalid q s (Some v) f = f v

abbrev pub unboxes : Queries → State → TypeExpr → Value → (ℕ → Value → Next) → Next
unboxes q s e value.Null f = raise q NullReferenceException s
unboxes q s e (value.Object a) f = given (object_at s a) s (λ o. or_invalid q s (boxed_of e o) (f a))
unboxes q s e _ f = stuck s

-- `unbox`: a pointer into the box
abbrev pub unbox_pointer : Queries → Here → Instruction → State → TypeExpr → Next
unbox_pointer q here i s e =
    required (is_value q e) s (popped s.top.stack s (λ v stack. unboxes q s e v (λ a w. goes here i (value.Pointer (path_into_box a e) ∷ stack) s)))

-- `unbox.any`: the value in the box; of a reference type it is `castclass`
abbrev pub unbox_value : Queries → Here → Instruction → State → TypeExpr → Next
unbox_value q here i s e =
    if is_reference q e then popped s.top.stack s (cast_class q here i s e)
    else required (is_value q e) s (popped s.top.stack s (λ v stack. unboxes q s e v (λ a w. goes here i (w ∷ stack) s)))

abbrev pub unboxed : Queries → Here → Instruction → State → TypeExpr → Next
unboxed q here i s e = if i.opcode == UNBOX then unbox_pointer q here i s e else unbox_value q here i s e

unfoldable pub unbox : Form
unbox q here i s = elim i.operand [ typ e ↦ closed q here e s (unboxed q here i s) | _ ↦ stuck s ]

-- ---- `ldtoken` (III.4.17)

abbrev pub is_definition_in : TypeExpr-F TypeExpr → Bool
is_definition_in (TypeExpr-F.Def t) = true
is_definition_in _ = false

-- a handle can be of a generic type's definition without arguments, and of VOID
unfoldable pub closed_handle : Queries → Here → TypeExpr → Option TypeExpr
closed_handle q here e =
    let c = plain (subst here.targs here.margs e) in if_so (is_definition_in (out-TypeExpr c) || is_sound (standing q.head c)) c

abbrev pub load_handle : Queries → Here → Instruction → State → TypeExpr → Next
load_handle q here i s e = had (closed_handle q here e) s (λ c. goes here i (value.Handle c ∷ s.top.stack) s)

-- `ldtoken` of a type or a field; of a method it ends the run
unfoldable pub load_token : Form
load_token q here i s =
    elim i.operand [
      | typ e ↦ known e s (load_handle q here i s)
      | used.Field f ↦ closed_field q here f s (λ a. goes here i (value.FieldHandle (record { 0 = a.id }) ∷ s.top.stack) s)
      | method m ↦ stopped s
      | _ ↦ stuck s
    ]
