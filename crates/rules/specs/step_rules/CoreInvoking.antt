-- Calls by reflection: which method MethodBase.Invoke, and GetValue and SetValue of a property, call, and what it takes. The tests are made
-- in the order that they have here.
use Rattle.std.specs.Prelude.{ℕ, List, [], ◌∷◌, length, nat_eq, Bool, true, false, not, ◌||◌, Option, Some, None, if◌then◌else◌}
use Rattle.std.specs.List.{list_all, list_any}
use Rattle.std.specs.Option.{option_and_then, option_map}
use Rattle.il_base.specs.declared.ids.Item.{Item}
use Rattle.il_base.specs.declared.ids.Item.TheVariants as item
use Rattle.il_base.specs.declared.world_model.expr.TypeExpr.{TypeExpr, out-TypeExpr}
use Rattle.il_base.specs.declared.world_model.expr.TypeExpr.TheOpen.{TypeExpr-F}
use Rattle.il_base.specs.declared.world_model.expr.TypeExpr as expr
use Rattle.il_base.specs.declared.world_model.expr.MethodUse.{MethodUse}
use Rattle.il_base.specs.declared.core_table.names.CoreName.TheVariants.{ArgumentException, InvalidOperationException, TargetException, TargetParameterCountException}
use Rattle.il_base.specs.declared.cil_values.core_call.CoreCall.{CoreCall}
use Rattle.il_base.specs.declared.cil_values.core_call.CoreCall.TheVariants as core
use Rattle.il_base.specs.declared.cil_values.core_call.Printed.TheVariants.{OfObject as of_object}
use Rattle.il_base.specs.declared.cil_values.definition.Method.{Method}
use Rattle.il_base.specs.declared.cil_values.definition.Signature.{Signature}
use Rattle.il_base.specs.declared.cil_values.definition.PropertyDef.{PropertyDef}
use Rattle.il_base.specs.declared.cil_values.value.Value.{Value}
use Rattle.il_base.specs.declared.cil_values.value.Value.TheVariants as value
use Rattle.il_base.specs.declared.cil_values.object.Obj.{Obj}
use Rattle.il_base.specs.declared.cil_values.object.Obj.TheVariants as object
use Rattle.il_base.specs.declared.cil_values.state.State.{State}
use Rattle.rules.specs.declared.type_rules.found_member.FoundMember.{FoundMember}
use Rattle.rules.specs.step_rules.Queries.{Queries}
use Rattle.rules.specs.step_rules.Next.{Next}
use Rattle.rules.specs.step_rules.Words.{stuck, stopped, given, had, known, within, args_of, object_at}
use Rattle.rules.specs.step_rules.Closing.{Callee, callee_of, is_whole, standing}
use Rattle.rules.specs.step_rules.Stores.{is_value, zero_of}
use Rattle.rules.specs.step_rules.Objects.{is_a}
use Rattle.rules.specs.step_rules.Raising.{raise}
use Rattle.rules.specs.step_rules.Frames.{definition_of}
use Rattle.rules.specs.step_rules.Types.{boxed_of}
use Rattle.rules.specs.step_rules.CoreMaking.{is_open}

-- ---- the method that is called

abbrev pub use_of : TypeExpr → ℕ → MethodUse
use_of e m = record { method = record { 0 = m }; owner = e; args = [] }

abbrev pub is_definition : Option ℕ → ℕ → Bool
is_definition None t = false
is_definition (Some d) t = nat_eq d t

-- an accessor is of the type in which the property was found; one in another type is of that definition
abbrev pub accessor_owner : TypeExpr → Method → TypeExpr
accessor_owner e m = if is_definition (definition_of e) m.owner then e else expr.Def (record { 0 = m.owner })

abbrev pub accessor_use : Queries → TypeExpr → ℕ → Option MethodUse
accessor_use q e n = option_map (λ (m : Method). use_of (accessor_owner e m) n) (q.method n)

abbrev pub method_in : Item → Option ℕ
method_in (item.Method m) = Some m.0
method_in _ = None

abbrev pub property_in : Queries → Item → Option PropertyDef
property_in q (item.Prop p) = q.property p.0
property_in q _ = None

abbrev pub getter_in : Queries → Item → Option ℕ
getter_in q i = option_and_then (λ (p : PropertyDef). p.getter) (property_in q i)

abbrev pub setter_in : Queries → Item → Option ℕ
setter_in q i = option_and_then (λ (p : PropertyDef). p.setter) (property_in q i)

-- what a member of the core library calls for a member of a type: the method itself, or an accessor of the property
unfoldable pub called_for : Queries → CoreCall → FoundMember → Option MethodUse
called_for q core.Invoke m = option_map (use_of m.owner) (method_in m.item)
called_for q core.PropertyGet m = option_and_then (accessor_use q m.owner) (getter_in q m.item)
called_for q core.PropertySet m = option_and_then (accessor_use q m.owner) (setter_in q m.item)
called_for q _ m = None

-- ---- methods that aren't called

-- whether a type has generic parameters without arguments, or in place of arguments
abbrev pub is_open_owner : Queries → TypeExpr → Bool
is_open_owner q e = is_open q e || not (list_all (λ a. is_whole (standing q.head a)) (args_of e))

abbrev pub is_open_method : Queries → MethodUse → Signature → Bool
is_open_method q u sig = not (nat_eq sig.own 0) || is_open_owner q u.owner

-- members of the core library that reflection doesn't call: they call themselves
unfoldable pub is_refused : CoreCall → Bool
is_refused core.Invoke = true
is_refused core.PropertyGet = true
is_refused core.PropertySet = true
is_refused core.Create = true
is_refused core.CreateOf = true
is_refused core.AreEqual = true
is_refused (core.Prints line of_object) = true
is_refused _ = false

abbrev pub is_refused_method : Option CoreCall → Bool
is_refused_method None = false
is_refused_method (Some k) = is_refused k

abbrev pub is_by_ref_in : TypeExpr-F TypeExpr → Bool
is_by_ref_in (TypeExpr-F.ByRef x) = true
is_by_ref_in _ = false

abbrev pub is_by_ref : TypeExpr → Bool
is_by_ref e = is_by_ref_in (out-TypeExpr e)

abbrev pub takes_by_ref : Signature → Bool
takes_by_ref sig = list_any is_by_ref sig.params || is_by_ref sig.ret

abbrev pub callable : Queries → MethodUse → State → (Callee → Next) → Next
callable q u s f = had (callee_of q u) s (λ c. within (not (takes_by_ref c.signature)) s (f c))

abbrev pub callable_by : Queries → MethodUse → State → (Callee → Next) → Signature → Next
callable_by q u s f sig =
    if is_open_method q u sig then raise q InvalidOperationException s
    else within (not (is_refused_method (q.core u.method.0))) s (callable q u s f)

-- Goes on with a method that reflection calls. An open one raises; one of the core library that calls itself, and one with a managed
-- pointer in its signature, end the run.
unfoldable pub invocable : Queries → MethodUse → State → (Callee → Next) → Next
invocable q u s f = given (q.method u.method.0) s (λ (m : Method). known m.signature s (callable_by q u s f))

-- ---- the target: an object of the type that has an instance's method or field

abbrev pub with_target : Queries → TypeExpr → Value → State → (ℕ → Next) → Next
with_target q e value.Null s f = raise q TargetException s
with_target q e (value.Object a) s f = if is_a q e (object_at s a) then f a else raise q TargetException s
with_target q e _ s f = stuck s

-- ---- arguments

abbrev pub cells_in : Obj → Option (List Value)
cells_in (object.Array of cells) = Some cells
cells_in _ = None

-- the elements of an array; null counts as an empty one
abbrev pub elements_by : State → Value → Option (List Value)
elements_by s value.Null = Some []
elements_by s (value.Object a) = option_and_then cells_in (object_at s a)
elements_by s _ = None

-- an object as a type takes it: a value type the value in a box of exactly this type
abbrev pub object_as : Queries → State → TypeExpr → ℕ → Option Value
object_as q s e a =
    if is_value q e then option_and_then (boxed_of e) (object_at s a)
    else if is_a q e (object_at s a) then Some (value.Object a)
    else None

-- what an argument is for a parameter, or the arguments for the parameters
pub data Taken (A : Type 0) : Type 0 where
  took : A → Taken A
  -- one doesn't fit
  unfit : Taken A
  -- one is null, for a type without a zero value
  zeroless : Taken A

abbrev pub or_unfit : Option Value → Taken Value
or_unfit (Some v) = took v
or_unfit None = unfit

abbrev pub or_zeroless : Option Value → Taken Value
or_zeroless (Some v) = took v
or_zeroless None = zeroless

-- an argument as a type takes it: null is the zero value
abbrev pub arg_as : Queries → State → TypeExpr → Value → Taken Value
arg_as q s e value.Null = or_zeroless (zero_of q e)
arg_as q s e (value.Object a) = or_unfit (object_as q s e a)
arg_as q s e _ = unfit

abbrev pub next_taken : Taken Value → Taken (List Value) → Taken (List Value)
next_taken (took v) (took vs) = took (v ∷ vs)
next_taken (took v) unfit = unfit
next_taken (took v) zeroless = zeroless
next_taken unfit later = unfit
next_taken zeroless later = zeroless

-- each argument as its parameter takes it; the first that can't be taken counts
unfoldable pub args_as : Queries → State → List TypeExpr → List Value → Taken (List Value)
args_as q s [] vs = took []
args_as q s (e ∷ es) [] = unfit
args_as q s (e ∷ es) (v ∷ vs) = next_taken (arg_as q s e v) (args_as q s es vs)

-- goes on with what was taken
abbrev pub by_taken : {A : Type 0} → Queries → State → Taken A → (A → Next) → Next
by_taken q s (took x) f = f x
by_taken q s unfit f = raise q ArgumentException s
by_taken q s zeroless f = stopped s

-- goes on with the arguments as the parameters take them
unfoldable pub with_args : Queries → Signature → List Value → State → (List Value → Next) → Next
with_args q sig vs s f =
    if nat_eq (length vs) (length sig.params) then by_taken q s (args_as q s sig.params vs) f else raise q TargetParameterCountException s
