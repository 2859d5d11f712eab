-- Members that search the world: Type.GetType by a name, and the searches for members of a type.
use Rattle.std.specs.Prelude.{ℕ, pos, List, [], ◌∷◌, ◌++◌, Bool, true, false, not, Option, Some, None, slice_get}
use Rattle.std.specs.Ordering.{int_eq}
use Rattle.il_base.specs.declared.world_model.expr.TypeExpr.{TypeExpr}
use Rattle.il_base.specs.declared.core_table.names.CoreName.{CoreName}
use Rattle.il_base.specs.declared.core_table.names.CoreName.TheVariants.{AmbiguousMatchException, ArgumentNullException, NullReferenceException, TypeLoadException}
use Rattle.il_base.specs.declared.core_table.names.CoreName.TheVariants as name
use Rattle.il_base.specs.declared.cil_values.core_call.CoreCall.{CoreCall}
use Rattle.il_base.specs.declared.cil_values.core_call.CoreCall.TheVariants as core
use Rattle.il_base.specs.declared.cil_values.core_call.MemberKind.{MemberKind}
use Rattle.il_base.specs.declared.cil_values.core_call.MemberKind.TheVariants as kind
use Rattle.il_base.specs.declared.cil_values.object.Obj.{Obj}
use Rattle.il_base.specs.declared.cil_values.object.Obj.TheVariants as object
use Rattle.il_base.specs.declared.cil_values.sought.Sought.{Sought}
use Rattle.il_base.specs.declared.cil_values.sought.Sought.TheVariants as sought
use Rattle.il_base.specs.declared.cil_values.value.Value.{Value}
use Rattle.il_base.specs.declared.cil_values.value.Value.TheVariants as value
use Rattle.rules.specs.declared.type_rules.found_member.FoundMember.{FoundMember}
use Rattle.rules.specs.step_rules.Queries.{Queries}
use Rattle.il_base.specs.declared.cil_values.state.State.{State}
use Rattle.il_base.specs.declared.cil_values.frame.Frame.{Frame}
use Rattle.rules.specs.step_rules.Next.{Next}
use Rattle.rules.specs.step_rules.Words.{stuck, stopped, given, made}
use Rattle.rules.specs.step_rules.Integers.{held_number}
use Rattle.rules.specs.step_rules.Objects.{core_type, units_of, bytes_of_units}
use Rattle.rules.specs.step_rules.Raising.{raise}
use Rattle.rules.specs.step_rules.CoreWords.{Gives, CoreForm, gives_value}
use Rattle.rules.specs.step_rules.CoreTypes.{typed_by, gives_type}

-- The members whose answers depend on what else is in the world: which types and members it has, which constructors. Those that look
-- at a member object alone are among them: no such object is there before a search.
unfoldable pub searches : CoreCall → Bool
searches (core.TypeFind throws) = true
searches (core.MemberFind k) = true
searches (core.MemberList k) = true
searches core.MethodIsStatic = true
searches (core.MemberType k) = true
searches core.MemberSame = true
searches core.MemberOther = true
searches core.Create = true
searches core.CreateOf = true
searches core.Invoke = true
searches core.FieldGet = true
searches core.FieldSet = true
searches core.PropertyGet = true
searches core.PropertySet = true
searches _ = false

-- ---- types by name

-- The method that calls a member: where reflection calls it, the member is in a frame of its own, and that below is the caller's.
abbrev pub below_member : ℕ → Option Frame → Option CoreCall → ℕ
below_member m (Some f) (Some k) = f.method.method.0
below_member m None (Some k) = m
below_member m f None = m

abbrev pub calling_method : Queries → State → ℕ
calling_method q s = let m = s.top.method.method.0 in below_member m (slice_get s.below 0) (q.core m)

-- the type that a text names for the method that calls
abbrev pub sought_by : Queries → State → List ℕ → Sought
sought_by q s units = q.find (calling_method q s) (bytes_of_units units)

-- a name that no type has: null, or TypeLoadException
abbrev pub gives_missing : Queries → State → Gives → Bool → Next
gives_missing q s give true = raise q TypeLoadException s
gives_missing q s give false = gives_value value.Null s give

-- a name that isn't looked for ends the run
abbrev pub gives_sought : Queries → State → Gives → Bool → Sought → Next
gives_sought q s give throws (sought.Found e) = gives_type e s give
gives_sought q s give throws sought.Missing = gives_missing q s give throws
gives_sought q s give throws sought.Unread = stopped s

abbrev pub find_named : Queries → State → Gives → Bool → Value → Next
find_named q s give throws value.Null = raise q ArgumentNullException s
find_named q s give throws v = given (units_of s v) s (λ units. gives_sought q s give throws (sought_by q s units))

-- Type.GetType(string)
unfoldable pub type_find_form : CoreForm
type_find_form q (v ∷ []) s give = find_named q s give false v
type_find_form q _ s give = stuck s

-- Type.GetType(string, bool): with true it raises where no type has the name
unfoldable pub type_find_or_form : CoreForm
type_find_or_form q (v ∷ w ∷ []) s give = given (held_number w) s (λ n. find_named q s give (not (int_eq n (pos 0))) v)
type_find_or_form q _ s give = stuck s

abbrev pub find_form : Bool → CoreForm
find_form false = type_find_form
find_form true = type_find_or_form

-- ---- members of a type

-- the object of a member
abbrev pub member_object : FoundMember → Obj
member_object m = object.Member m.item m.owner

-- none is null, several are ambiguous
abbrev pub gives_found : Queries → State → Gives → List FoundMember → Next
gives_found q s give [] = gives_value value.Null s give
gives_found q s give (m ∷ []) = made (member_object m) s (λ a t. gives_value (value.Object a) t give)
gives_found q s give (m ∷ n ∷ ms) = raise q AmbiguousMatchException s

abbrev pub member_named : Queries → State → Gives → MemberKind → TypeExpr → Value → Next
member_named q s give k e value.Null = raise q NullReferenceException s
member_named q s give k e v = given (units_of s v) s (λ units. gives_found q s give (q.members k (Some (bytes_of_units units)) e))

-- Type.GetMethod(string), GetField(string), GetProperty(string)
unfoldable pub member_find_form : MemberKind → CoreForm
member_find_form k q (v ∷ w ∷ []) s give = given (typed_by s v) s (λ e. member_named q s give k e w)
member_find_form k q _ s give = stuck s

-- goes on with new objects of members, behind those that there are
abbrev pub all_made : List FoundMember → List Value → State → (List Value → State → Next) → Next
all_made [] vs s f = f vs s
all_made (m ∷ ms) vs s f = made (member_object m) s (λ a t. all_made ms (vs ++ value.Object a ∷ []) t f)

-- the type of a kind's objects
abbrev pub info_name : MemberKind → CoreName
info_name kind.Method = name.MethodInfo
info_name kind.Field = name.FieldInfo
info_name kind.Property = name.PropertyInfo

abbrev pub gives_all : Queries → State → Gives → MemberKind → List FoundMember → Next
gives_all q s give k ms =
    all_made ms [] s (λ vs t. made (object.Array (core_type q (info_name k)) vs) t (λ a u. gives_value (value.Object a) u give))

-- Type.GetMethods(), GetFields(), GetProperties(): a new array
unfoldable pub member_list_form : MemberKind → CoreForm
member_list_form k q (v ∷ []) s give = given (typed_by s v) s (λ e. gives_all q s give k (q.members k None e))
member_list_form k q _ s give = stuck s
