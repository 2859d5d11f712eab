-- Which method a virtual call runs, and what it takes as `this` (I.12.4.1.4, III.4.2).
use Rattle.std.specs.Prelude.{ℕ, ◌+◌, [], length, nat_eq, Bool, not, ◌&&◌, Option, Some, None, if◌then◌else◌}
use Rattle.std.specs.Option.{option_map}
use Rattle.std.specs.Bool.{beq}
use Rattle.il_base.specs.declared.method_flags.TheConstants.{ABSTRACT, VIRTUAL}
use Rattle.il_base.specs.Flags.{has_flag}
use Rattle.il_base.specs.declared.world_model.expr.TypeExpr.{TypeExpr}
use Rattle.il_base.specs.declared.world_model.expr.MethodUse.{MethodUse}
use Rattle.il_base.specs.declared.cil_values.value.Value.{Value}
use Rattle.il_base.specs.declared.cil_values.value.Value.TheVariants as value
use Rattle.il_base.specs.declared.cil_values.object.Obj.{Obj}
use Rattle.il_base.specs.declared.cil_values.object.Obj.TheVariants as object
use Rattle.il_base.specs.declared.cil_values.path.Path.{Path}
use Rattle.il_base.specs.declared.cil_values.path.Root.TheVariants as root
use Rattle.il_base.specs.declared.cil_values.definition.Method.{Method}
use Rattle.il_base.specs.declared.cil_values.definition.Signature.{Signature}
use Rattle.rules.specs.step_rules.Queries.{Queries}
use Rattle.il_base.specs.declared.cil_values.state.State.{State}
use Rattle.rules.specs.step_rules.Next.{Next}
use Rattle.rules.specs.step_rules.Words.{given, had, known, required, object_at}
use Rattle.rules.specs.step_rules.Closing.{Callee, callee_of, is_void}
use Rattle.rules.specs.step_rules.Stores.{is_value}

abbrev pub is_abstract : Method → Bool
is_abstract m = has_flag m.flags ABSTRACT

abbrev pub is_virtual : Method → Bool
is_virtual m = has_flag m.flags VIRTUAL

-- the arguments of a method, `this` among them
abbrev pub slots_of : Signature → ℕ
slots_of sig = length sig.params + (if sig.this then 1 else 0)

-- two signatures with the same number of arguments, that both return a value or both none
abbrev pub is_called_alike : Signature → Signature → Bool
is_called_alike a b = nat_eq (slots_of a) (slots_of b) && beq (is_void a.ret) (is_void b.ret)

-- the method that answers a virtual call, with the generic arguments of the call
abbrev pub found_use : Queries → TypeExpr → Callee → Option MethodUse
found_use q e c = option_map (λ (u : MethodUse). record u { args = c.called.args }) (q.answers e c.called.owner c.called.method.0)

-- goes on with the method that answers a virtual call for an object of a type; none, an abstract one, or one of another form is stuck
unfoldable pub dispatched : Queries → Callee → TypeExpr → State → (Callee → Next) → Next
dispatched q c e s f =
    given (found_use q e c) s (λ u. given (q.method u.method.0) s (λ m. required (not (is_abstract m)) s (
    known m.signature s (λ sig. required (is_called_alike sig c.signature) s (had (callee_of q u) s f)))))

-- the method that runs for an object of a type: the one that answers the slot of a virtual method, else the method itself
unfoldable pub found_from : Queries → Callee → TypeExpr → State → (Callee → Next) → Next
found_from q c e s f = if is_virtual c.method then dispatched q c e s f else required (not (is_abstract c.method)) s (f c)

-- ---- `this`

abbrev pub path_into_box : ℕ → TypeExpr → Path
path_into_box a e = record { root = root.Boxed a; steps = []; of = e }

abbrev pub box_pointer : ℕ → Option Obj → Option Value
box_pointer a (Some (object.Boxed of v)) = Some (value.Pointer (path_into_box a of))
box_pointer a _ = None

-- an object goes to a method of a value type as the pointer into its box; one that is no box doesn't
abbrev pub this_in : Queries → State → TypeExpr → Value → Option Value
this_in q s owner (value.Object a) = if is_value q owner then box_pointer a (object_at s a) else Some (value.Object a)
this_in q s owner v = Some v

unfoldable pub this_for : Queries → State → Callee → Value → Option Value
this_for q s c v = this_in q s c.called.owner v
