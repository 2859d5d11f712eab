-- Calls of members of the core library: each is whole in its step, but for one that calls a method of the program.
use Rattle.std.specs.Prelude.{ℕ, List, [], ◌∷◌, Bool, true, false, Option, Some, None, unwrap_or, if◌then◌else◌}
use Rattle.std.specs.Option.{option_and_then, option_map}
use Rattle.il_base.specs.declared.element.TheConstants.{BOOLEAN, OBJECT}
use Rattle.il_base.specs.declared.core_table.names.CoreName.TheVariants.{ArgumentException}
use Rattle.il_base.specs.declared.world_model.expr.TypeExpr.{TypeExpr}
use Rattle.il_base.specs.declared.world_model.expr.TypeExpr as expr
use Rattle.il_base.specs.declared.world_model.expr.MethodUse.{MethodUse}
use Rattle.il_base.specs.declared.cil_values.value.Value.{Value}
use Rattle.il_base.specs.declared.cil_values.value.Value.TheVariants as value
use Rattle.rules.specs.step_rules.Queries.{Queries}
use Rattle.il_base.specs.declared.cil_values.state.State.{State}
use Rattle.rules.specs.step_rules.Next.{Next}
use Rattle.il_base.specs.declared.cil_values.frame.Waits.TheVariants as waits
use Rattle.il_base.specs.declared.cil_values.core_call.CoreCall.{CoreCall}
use Rattle.il_base.specs.declared.cil_values.core_call.Printed.TheVariants.{OfObject as of_object}
use Rattle.il_base.specs.declared.cil_values.core_call.CoreCall.TheVariants as core
use Rattle.rules.specs.step_rules.Words.{stuck, given, had, object_at}
use Rattle.rules.specs.step_rules.Closing.{Callee, callee_of, front}
use Rattle.rules.specs.step_rules.Integers.{narrowed}
use Rattle.rules.specs.step_rules.Stores.{all_fit}
use Rattle.rules.specs.step_rules.Places.{boxed_in}
use Rattle.rules.specs.step_rules.Objects.{type_of}
use Rattle.rules.specs.step_rules.Frames.{enter, entered_with, started}
use Rattle.rules.specs.step_rules.Dispatch.{dispatched, found_from, this_for}
use Rattle.rules.specs.step_rules.CoreWords.{Gives, CoreForm, checked, gives_nothing, gives_value, gives_truth, gives_boxed, or_raise, before_call, caller_in}
use Rattle.rules.specs.step_rules.CoreObjects.{halt, idle_form, type_name_form, same_form, number_text_form, number_is_form, int_equals_form, int_compare_form, exception_text_form, exception_inner_form, exception_parameter_form, get_message_form, get_inner_form, is_same}
use Rattle.rules.specs.step_rules.CoreTexts.{string_length_form, string_unit_form, string_index_form, string_concat_form, string_from_form, string_part_form, string_itself_form, string_same_form, string_other_form, string_is_form, string_is_empty_form, string_compare_form, int_parse_form}
use Rattle.rules.specs.step_rules.CoreConsole.{print_form, line_end_form, read_unit_form, read_line_form}
use Rattle.rules.specs.step_rules.CoreArrays.{array_length_form, fill_array_form}
use Rattle.rules.specs.step_rules.CoreSearches.{find_form, member_find_form, member_list_form}
use Rattle.rules.specs.step_rules.CoreMaking.{create_with, create_of_with}
use Rattle.rules.specs.step_rules.CoreTypes.{type_from_handle_form, object_type_form, type_text_form, type_full_name_form, type_namespace_form, type_other_form, type_fits_form, type_has_form, type_is_value_form, type_is_interface_form, type_is_array_form}
use Rattle.rules.specs.step_rules.CoreInvoking.{called_for, invocable, with_target, elements_by, with_args}
use Rattle.rules.specs.step_rules.CoreFields.{field_get_form, field_set_form}
use Rattle.rules.specs.step_rules.CoreMembers.{member_by, member_name_form, member_owner_form, member_type_form, method_is_static_form, member_same_form, member_other_form}

-- ---- members that call nothing; a member that searches isn't virtual, so no slot leads to it

unfoldable pub simple : CoreCall → CoreForm
simple core.Halts = halt
simple core.Idle = idle_form
simple core.TypeName = type_name_form
simple core.IsObject = same_form
simple core.SameReference = same_form
simple (core.NumberText code) = number_text_form code
simple (core.NumberIs code) = number_is_form code
simple core.IntEquals = int_equals_form
simple core.IntCompare = int_compare_form
simple core.IntParse = int_parse_form
simple core.StringLength = string_length_form
simple core.StringUnit = string_unit_form
simple core.StringConcat = string_concat_form
simple core.StringSame = string_same_form
simple core.StringOther = string_other_form
simple core.StringIs = string_is_form
simple core.StringItself = string_itself_form
simple core.StringFrom = string_from_form
simple core.StringPart = string_part_form
simple core.StringIndex = string_index_form
simple core.StringIsEmpty = string_is_empty_form
simple core.StringCompare = string_compare_form
simple core.ArrayLength = array_length_form
simple (core.Prints line kind) = print_form line kind
simple core.PrintsLineEnd = line_end_form
simple core.ReadLine = read_line_form
simple core.ReadUnit = read_unit_form
simple core.ExceptionPlain = idle_form
simple core.ExceptionText = exception_text_form
simple core.ExceptionInner = exception_inner_form
simple (core.ExceptionParameter n) = exception_parameter_form n
simple core.GetMessage = get_message_form
simple core.GetInner = get_inner_form
simple core.FillArray = fill_array_form
simple core.TypeFromHandle = type_from_handle_form
simple core.TypeOf = object_type_form
simple core.TypeText = type_text_form
simple core.TypeFullName = type_full_name_form
simple core.TypeNamespace = type_namespace_form
simple core.MemberName = member_name_form
simple core.MemberOwner = member_owner_form
simple core.TypeSame = same_form
simple core.TypeOther = type_other_form
simple core.TypeIs = same_form
simple core.TypeFits = type_fits_form
simple core.TypeHas = type_has_form
simple core.TypeIsValue = type_is_value_form
simple core.TypeIsInterface = type_is_interface_form
simple core.TypeIsArray = type_is_array_form
simple (core.TypeFind throws) = λ q args s give. stuck s
simple (core.MemberFind k) = λ q args s give. stuck s
simple (core.MemberList k) = λ q args s give. stuck s
simple core.MethodIsStatic = λ q args s give. stuck s
simple (core.MemberType k) = λ q args s give. stuck s
simple core.MemberSame = λ q args s give. stuck s
simple core.MemberOther = λ q args s give. stuck s
simple core.Create = λ q args s give. stuck s
simple core.CreateOf = λ q args s give. stuck s
simple core.Invoke = λ q args s give. stuck s
simple core.FieldGet = λ q args s give. stuck s
simple core.FieldSet = λ q args s give. stuck s
simple core.PropertyGet = λ q args s give. stuck s
simple core.PropertySet = λ q args s give. stuck s
simple core.AreEqual = λ q args s give. stuck s

-- ---- members that call

-- what the method returns that a member called for the member object, its first argument
abbrev pub returned_type : Queries → State → CoreCall → List Value → Option TypeExpr
returned_type q s k [] = None
returned_type q s k (v ∷ vs) =
    option_map (λ (c : Callee). c.signature.ret) (option_and_then (callee_of q) (option_and_then (called_for q k) (member_by s v)))

abbrev pub gives_returned : Queries → CoreCall → List Value → Value → State → Gives → Next
gives_returned q k args v s give = given (returned_type q s k args) s (λ e. gives_boxed q e v s give)

-- a member goes on with its own arguments and the result of the method that it called
abbrev pub with_result : CoreCall → Queries → List Value → Value → State → Gives → Next
with_result (core.Prints line of_object) q args v s give = print_form line of_object q (v ∷ []) s give
with_result core.AreEqual q args v s give = given (narrowed BOOLEAN v) s (λ b. gives_value b s give)
with_result core.Invoke q args v s give = gives_returned q core.Invoke args v s give
with_result core.PropertyGet q args v s give = gives_returned q core.PropertyGet args v s give
with_result core.PropertySet q args v s give = gives_nothing s give
with_result _ q args v s give = stuck s

-- the first argument: the object that a constructor made
abbrev pub gives_first : List Value → State → Gives → Next
gives_first [] s give = stuck s
gives_first (v ∷ vs) s give = gives_value v s give

-- the value in the box, or the object that is none
abbrev pub gives_unboxed : List Value → State → Gives → Next
gives_unboxed (value.Object a ∷ vs) s give = gives_value (unwrap_or (option_and_then boxed_in (object_at s a)) (value.Object a)) s give
gives_unboxed _ s give = stuck s

-- the method that it called returned nothing
abbrev pub without_result : CoreCall → Queries → List Value → State → Gives → Next
without_result core.Create q args s give = gives_first args s give
without_result core.CreateOf q args s give = gives_unboxed args s give
without_result core.Invoke q args s give = gives_value value.Null s give
without_result core.PropertyGet q args s give = gives_value value.Null s give
without_result core.PropertySet q args s give = gives_nothing s give
without_result _ q args s give = stuck s

abbrev pub with_option : CoreCall → Queries → List Value → State → Gives → Option Value → Next
with_option k q args s give None = without_result k q args s give
with_option k q args s give (Some v) = with_result k q args v s give

abbrev pub resumed : CoreCall → Queries → List Value → Gives → Gives
resumed k q args give s v bytes = with_option k q args s give v

-- runs a method that was found: a member of the core library in this step, a method of the program in a frame for which this member
-- waits
abbrev pub run_found : Queries → CoreCall → List Value → Callee → List Value → State → Gives → Option CoreCall → Next
run_found q k args c vs s give (Some found) = checked q c vs s (λ checked_vs. simple found q checked_vs s (resumed k q args give))
run_found q k args c vs s give None = enter q c vs (waits.Core k args) s

-- `this` as the found method takes it, and the other arguments as its slots keep them
abbrev pub found_args : Queries → State → Callee → Value → List Value → Option (List Value)
found_args q s c this vs = front (this_for q s c this) (all_fit q c.signature.params vs)

abbrev pub object_slot : ℕ → MethodUse
object_slot m = record { method = record { 0 = m }; owner = expr.Prim OBJECT; args = [] }

-- a virtual call of a slot of Object
unfoldable pub calls_slot : ℕ → Queries → CoreCall → List Value → ℕ → List Value → State → Gives → Next
calls_slot m q k args a vs s give =
    had (callee_of q (object_slot m)) s (λ c. given (object_at s a) s (λ o. dispatched q c (type_of q o) s (λ found.
    given (found_args q s found (value.Object a) vs) s (λ ws. run_found q k args found ws s give (q.core found.called.method.0)))))

-- Write and WriteLine of an object: null prints nothing, another by ToString()
unfoldable pub print_object : Bool → CoreForm
print_object line q (value.Null ∷ []) s give = print_form line of_object q (value.Null ∷ []) s give
print_object line q (value.Object a ∷ []) s give = calls_slot q.to_string q (core.Prints line of_object) (value.Object a ∷ []) a [] s give
print_object line q _ s give = stuck s

abbrev pub equal_by : Queries → State → Gives → Value → Value → Bool → Next
equal_by q s give v w true = gives_truth true s give
equal_by q s give (value.Object a) (value.Object b) false =
    calls_slot q.equals q core.AreEqual (value.Object a ∷ value.Object b ∷ []) a (value.Object b ∷ []) s give
equal_by q s give v w false = gives_truth false s give

-- the static Object.Equals(object, object): the same or both null, one null, else the first one's Equals(object)
unfoldable pub equal_form : CoreForm
equal_form q (v ∷ w ∷ []) s give = given (is_same v w) s (equal_by q s give v w)
equal_form q _ s give = stuck s

-- the constructor of a new object runs, whose number the waiting member keeps
abbrev pub constructs : Queries → CoreCall → Gives → Callee → ℕ → Value → State → Next
constructs q k give c a this s = run_found q k (value.Object a ∷ []) c (this ∷ []) s give (q.core c.called.method.0)

-- Activator.CreateInstance(Type)
unfoldable pub create_form : CoreForm
create_form q args s give = create_with q args s give (constructs q core.Create give)

-- Activator.CreateInstance<T>(), with T
unfoldable pub create_of_form : List TypeExpr → CoreForm
create_of_form targs q args s give = create_of_with targs q args s give (constructs q core.CreateOf give)

-- ---- members that call no method of a member object

unfoldable pub own_member : CoreCall → CoreForm
own_member (core.Prints line of_object) = print_object line
own_member core.AreEqual = equal_form
own_member (core.TypeFind throws) = find_form throws
own_member core.Create = create_form
own_member (core.MemberFind k) = member_find_form k
own_member (core.MemberList k) = member_list_form k
own_member core.MethodIsStatic = method_is_static_form
own_member (core.MemberType k) = member_type_form
own_member core.MemberSame = member_same_form
own_member core.MemberOther = member_other_form
own_member k = simple k

-- `back` is the state in which the call comes again
unfoldable pub reflected_member : State → CoreCall → CoreForm
reflected_member back core.FieldGet = field_get_form back
reflected_member back core.FieldSet = field_set_form back
reflected_member back k = own_member k

-- ---- calls by reflection. `keep` is what waits for the called method, `back` the arguments with which the call comes again.

-- what the called member gives goes to the member that called it
abbrev pub gives_called : Queries → CoreCall → List Value → Gives → Gives
gives_called q k keep give t v bytes = with_option k q keep (caller_in t) (λ u w more. give u w bytes) v

-- a member of the core library is whole in this step, in a frame of its own, so that what it raises is wrapped
abbrev pub runs_member : Queries → CoreCall → List Value → List Value → Callee → List Value → State → Gives → CoreCall → Next
runs_member q k keep back c vs s give found =
    let t = entered_with c vs [] (waits.Core k keep) s in
    checked q c vs t (λ args. reflected_member (before_call back (caller_in t)) found q args t (gives_called q k keep give))

abbrev pub runs_called : Queries → CoreCall → List Value → List Value → Callee → List Value → State → Gives → Option CoreCall → Next
runs_called q k keep back c vs s give (Some found) = runs_member q k keep back c vs s give found
runs_called q k keep back c vs s give None = enter q c vs (waits.Core k keep) s

-- the method that was found for an object
abbrev pub calls_found : Queries → CoreCall → List Value → List Value → List Value → State → Gives → ℕ → Callee → Next
calls_found q k keep back vs s give a found =
    given (found_args q s found (value.Object a) vs) s (λ ws. runs_called q k keep back found ws s give (q.core found.called.method.0))

abbrev pub calls_on : Queries → CoreCall → List Value → List Value → Callee → List Value → State → Gives → ℕ → Next
calls_on q k keep back c args s give a =
    with_args q c.signature args s (λ vs. given (object_at s a) s (λ o. found_from q c (type_of q o) s (calls_found q k keep back vs s give a)))

-- a static method begins its type (II.10.5.3)
abbrev pub calls_static : Queries → CoreCall → List Value → List Value → Callee → List Value → State → Gives → Next
calls_static q k keep back c args s give =
    with_args q c.signature args s (λ vs. started q false c.called.owner (before_call back s) (λ t.
    given (all_fit q c.signature.params vs) s (λ ws. runs_called q k keep back c ws s give (q.core c.called.method.0))))

abbrev pub calls_method : Queries → CoreCall → List Value → List Value → Value → List Value → State → Gives → Callee → Next
calls_method q k keep back target args s give c =
    if c.signature.this then with_target q c.called.owner target s (calls_on q k keep back c args s give)
    else calls_static q k keep back c args s give

-- a property without such an accessor raises
unfoldable pub calls_for : Queries → CoreCall → List Value → Value → Value → List Value → State → Gives → Next
calls_for q k back v target args s give =
    given (member_by s v) s (λ m. or_raise q ArgumentException s (called_for q k m) (λ u.
    invocable q u s (calls_method q k (v ∷ []) back target args s give)))

-- MethodBase.Invoke(object, object[])
unfoldable pub invoke_form : CoreForm
invoke_form q (v ∷ target ∷ array ∷ []) s give =
    given (elements_by s array) s (λ args. calls_for q core.Invoke (v ∷ target ∷ array ∷ []) v target args s give)
invoke_form q _ s give = stuck s

-- PropertyInfo.GetValue(object)
unfoldable pub property_get_form : CoreForm
property_get_form q (v ∷ target ∷ []) s give = calls_for q core.PropertyGet (v ∷ target ∷ []) v target [] s give
property_get_form q _ s give = stuck s

-- PropertyInfo.SetValue(object, object)
unfoldable pub property_set_form : CoreForm
property_set_form q (v ∷ target ∷ w ∷ []) s give = calls_for q core.PropertySet (v ∷ target ∷ w ∷ []) v target (w ∷ []) s give
property_set_form q _ s give = stuck s

-- FieldInfo.GetValue(object) and SetValue(object, object), called by the program
unfoldable pub field_form : CoreCall → CoreForm
field_form k q args s give = reflected_member (before_call args s) k q args s give

-- ---- all members

unfoldable pub member : CoreCall → CoreForm
member core.Invoke = invoke_form
member core.PropertyGet = property_get_form
member core.PropertySet = property_set_form
member core.FieldGet = field_form core.FieldGet
member core.FieldSet = field_form core.FieldSet
member k = own_member k

-- a member with the type arguments of its call
unfoldable pub member_of : List TypeExpr → CoreCall → CoreForm
member_of targs core.CreateOf = create_of_form targs
member_of targs k = member k

-- a call, with all its arguments
unfoldable pub core_call : Queries → Callee → CoreCall → List Value → State → Gives → Next
core_call q c k vs s give = checked q c vs s (λ args. member_of c.called.args k q args s give)
