-- Members that look at types alone: Object.GetType, and of Type those that neither search for members nor call them.
use Rattle.std.specs.Prelude.{ℕ, List, [], ◌∷◌, ◌++◌, Bool, true, false, not, ◌&&◌, Option, Some, None, find, if◌then◌else◌}
use Rattle.std.specs.Option.{option_and_then}
use Rattle.il_base.specs.declared.type_flags.TheConstants.{INTERFACE}
use Rattle.il_base.specs.declared.world_model.expr.TypeExpr.{TypeExpr, out-TypeExpr, fold-TypeExpr}
use Rattle.il_base.specs.declared.world_model.expr.TypeExpr.TheOpen.{TypeExpr-F}
use Rattle.il_base.specs.declared.world_model.expr.TypeExpr as expr
use Rattle.il_base.specs.world_model.Exprs.{same_expr}
use Rattle.il_base.specs.declared.core_table.names.CoreName.TheVariants.{NullReferenceException, ValueType, Enum}
use Rattle.il_base.specs.declared.cil_values.value.Value.{Value}
use Rattle.il_base.specs.declared.cil_values.value.Value.TheVariants as value
use Rattle.il_base.specs.declared.cil_values.object.Obj.{Obj}
use Rattle.il_base.specs.declared.cil_values.object.Obj.TheVariants as object
use Rattle.rules.specs.step_rules.Queries.{Queries}
use Rattle.il_base.specs.declared.cil_values.state.State.{State}
use Rattle.rules.specs.step_rules.Next.{Next}
use Rattle.rules.specs.step_rules.Words.{stuck, stopped, given, made, object_at}
use Rattle.rules.specs.step_rules.Objects.{type_of, is_a, core_type, units_of_bytes}
use Rattle.rules.specs.step_rules.Frames.{head_of, head_has}
use Rattle.rules.specs.step_rules.Raising.{raise}
use Rattle.rules.specs.step_rules.CoreWords.{Gives, CoreForm, gives_value, gives_truth, gives_text}
use Rattle.rules.specs.step_rules.CoreObjects.{is_same}

-- ---- objects of types: one for each closed type

abbrev pub typed_in : Obj → Option TypeExpr
typed_in (object.TypeOf e) = Some e
typed_in _ = None

abbrev pub typed_at : Option Obj → Option TypeExpr
typed_at o = option_and_then typed_in o

-- the type whose object a value names
unfoldable pub typed_by : State → Value → Option TypeExpr
typed_by s (value.Object a) = typed_at (object_at s a)
typed_by s _ = None

abbrev pub is_type : TypeExpr → Option TypeExpr → Bool
is_type e None = false
is_type e (Some other) = same_expr other e

-- the object of a type, where it was made before
unfoldable pub type_object : State → TypeExpr → Option ℕ
type_object s e = find (λ a. is_type e (typed_at (object_at s a))) s.types

abbrev pub with_type : TypeExpr → State → (ℕ → State → Next) → Option ℕ → Next
with_type e s f (Some a) = f a s
with_type e s f None = made (object.TypeOf e) s (λ a s. f a (record s { types = s.types ++ a ∷ [] }))

-- the one object of a type, made now where it wasn't there
unfoldable pub typed : TypeExpr → State → (ℕ → State → Next) → Next
typed e s f = with_type e s f (type_object s e)

abbrev pub gives_type : TypeExpr → State → Gives → Next
gives_type e s give = typed e s (λ a t. gives_value (value.Object a) t give)

-- ---- how Type objects come

-- Type.GetTypeFromHandle(RuntimeTypeHandle): null for the zero handle, the one other value that the parameter takes
abbrev pub handle_type : State → Gives → Value → Next
handle_type s give (value.Handle e) = gives_type e s give
handle_type s give _ = gives_value value.Null s give

unfoldable pub type_from_handle_form : CoreForm
type_from_handle_form q (v ∷ []) s give = handle_type s give v
type_from_handle_form q _ s give = stuck s

-- Object.GetType()
abbrev pub object_type : Queries → State → Gives → Value → Next
object_type q s give (value.Object a) = given (object_at s a) s (λ o. gives_type (type_of q o) s give)
object_type q s give _ = stuck s

unfoldable pub object_type_form : CoreForm
object_type_form q (v ∷ []) s give = object_type q s give v
object_type_form q _ s give = stuck s

-- the definition that a type is nested in: null for an array and a type that isn't nested
abbrev pub gives_encloser : State → Gives → Option ℕ → Next
gives_encloser s give None = gives_value value.Null s give
gives_encloser s give (Some t) = gives_type (expr.Def (record { 0 = t })) s give

-- ---- texts

-- Type.ToString(): the type's text
unfoldable pub type_text_form : CoreForm
type_text_form q (v ∷ []) s give = given (typed_by s v) s (λ e. gives_text (units_of_bytes (q.text e)) s give)
type_text_form q _ s give = stuck s

abbrev pub constructed_layer : TypeExpr-F Bool → Bool
constructed_layer (TypeExpr-F.Inst t args) = true
constructed_layer (TypeExpr-F.Array x) = x
constructed_layer (TypeExpr-F.ByRef x) = x
constructed_layer (TypeExpr-F.Mod required by x) = x
constructed_layer _ = false

-- whether a type, or the element of an array, has generic arguments
unfoldable pub is_constructed : TypeExpr → Bool
is_constructed = fold-TypeExpr Bool constructed_layer

abbrev pub full_name : Queries → State → Gives → TypeExpr → Next
full_name q s give e = if is_constructed e then stopped s else gives_text (units_of_bytes (q.text e)) s give

-- Type.get_FullName(): the text; of a constructed type it ends the run
unfoldable pub type_full_name_form : CoreForm
type_full_name_form q (v ∷ []) s give = given (typed_by s v) s (full_name q s give)
type_full_name_form q _ s give = stuck s

abbrev pub gives_space : State → Gives → List ℕ → Next
gives_space s give [] = gives_value value.Null s give
gives_space s give (c ∷ cs) = gives_text (units_of_bytes (c ∷ cs)) s give

-- Type.get_Namespace(): null where it is empty
unfoldable pub type_namespace_form : CoreForm
type_namespace_form q (v ∷ []) s give = given (typed_by s v) s (λ e. gives_space s give (q.space e))
type_namespace_form q _ s give = stuck s

-- ---- tests

-- Type.op_Inequality(Type, Type); op_Equality and Equals(object) are those of any object
unfoldable pub type_other_form : CoreForm
type_other_form q (v ∷ w ∷ []) s give = given (is_same v w) s (λ b. gives_truth (not b) s give)
type_other_form q _ s give = stuck s

abbrev pub fits_type : Queries → State → Gives → TypeExpr → Value → Next
fits_type q s give e value.Null = raise q NullReferenceException s
fits_type q s give e v = given (typed_by s v) s (λ other. gives_truth (q.below other e) s give)

-- Type.IsAssignableFrom(Type): whether the argument can stand for the type (I.8.7)
unfoldable pub type_fits_form : CoreForm
type_fits_form q (v ∷ w ∷ []) s give = given (typed_by s v) s (λ e. fits_type q s give e w)
type_fits_form q _ s give = stuck s

abbrev pub is_object_of : Queries → State → TypeExpr → Value → Bool
is_object_of q s e (value.Object a) = is_a q e (object_at s a)
is_object_of q s e _ = false

-- Type.IsInstanceOfType(object): false for null
unfoldable pub type_has_form : CoreForm
type_has_form q (v ∷ w ∷ []) s give = given (typed_by s v) s (λ e. gives_truth (is_object_of q s e w) s give)
type_has_form q _ s give = stuck s

-- a type below ValueType but for ValueType itself and Enum (I.8.2.4)
unfoldable pub is_value_type : Queries → TypeExpr → Bool
is_value_type q e =
    q.below e (core_type q ValueType) && not (same_expr e (core_type q ValueType)) && not (same_expr e (core_type q Enum))

-- Type.get_IsValueType()
unfoldable pub type_is_value_form : CoreForm
type_is_value_form q (v ∷ []) s give = given (typed_by s v) s (λ e. gives_truth (is_value_type q e) s give)
type_is_value_form q _ s give = stuck s

-- Type.get_IsInterface()
unfoldable pub type_is_interface_form : CoreForm
type_is_interface_form q (v ∷ []) s give = given (typed_by s v) s (λ e. gives_truth (head_has INTERFACE (head_of q e)) s give)
type_is_interface_form q _ s give = stuck s

abbrev pub is_array_in : TypeExpr-F TypeExpr → Bool
is_array_in (TypeExpr-F.Array x) = true
is_array_in _ = false

-- Type.get_IsArray()
unfoldable pub type_is_array_form : CoreForm
type_is_array_form q (v ∷ []) s give = given (typed_by s v) s (λ e. gives_truth (is_array_in (out-TypeExpr e)) s give)
type_is_array_form q _ s give = stuck s
