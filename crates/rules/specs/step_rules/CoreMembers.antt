-- Members that look at the object of a method, a field or a property, and those of MemberInfo, which take such an object or a type's.
use Rattle.std.specs.Prelude.{ℕ, List, [], ◌∷◌, nat_eq, Bool, true, false, not, ◌&&◌, Option, Some, None, if◌then◌else◌}
use Rattle.std.specs.List.{list_all}
use Rattle.std.specs.Option.{option_and_then, option_map}
use Rattle.il_base.specs.declared.ids.Item.{Item}
use Rattle.il_base.specs.declared.ids.Item.TheVariants as item
use Rattle.il_base.specs.declared.method_flags.TheConstants.{STATIC}
use Rattle.il_base.specs.Flags.{has_flag}
use Rattle.il_base.specs.declared.world_model.expr.TypeExpr.{TypeExpr}
use Rattle.il_base.specs.world_model.Exprs.{same_expr}
use Rattle.il_base.specs.declared.cil_values.definition.Signature.{Signature}
use Rattle.il_base.specs.declared.cil_values.definition.Method.{Method}
use Rattle.il_base.specs.declared.cil_values.definition.FieldDef.{FieldDef}
use Rattle.il_base.specs.declared.cil_values.definition.PropertyDef.{PropertyDef}
use Rattle.il_base.specs.declared.cil_values.value.Value.{Value}
use Rattle.il_base.specs.declared.cil_values.value.Value.TheVariants as value
use Rattle.il_base.specs.declared.cil_values.object.Obj.{Obj}
use Rattle.il_base.specs.declared.cil_values.object.Obj.TheVariants as object
use Rattle.il_base.specs.declared.cil_values.state.State.{State}
use Rattle.rules.specs.declared.type_rules.found_member.FoundMember.{FoundMember}
use Rattle.rules.specs.step_rules.Queries.{Queries}
use Rattle.rules.specs.step_rules.Next.{Next}
use Rattle.rules.specs.step_rules.Words.{stuck, stopped, given, good, args_of, object_at}
use Rattle.rules.specs.step_rules.Closing.{standing, is_whole, closed_return}
use Rattle.rules.specs.step_rules.Objects.{units_of_bytes}
use Rattle.rules.specs.step_rules.Frames.{definition_of}
use Rattle.rules.specs.step_rules.CoreWords.{Gives, CoreForm, gives_truth, gives_text}
use Rattle.rules.specs.step_rules.CoreTypes.{typed_by, gives_encloser, gives_type}

-- ---- objects of members

abbrev pub member_in : Obj → Option FoundMember
member_in (object.Member i e) = Some (record { item = i; owner = e })
member_in _ = None

-- the member whose object a value names
unfoldable pub member_by : State → Value → Option FoundMember
member_by s (value.Object a) = option_and_then member_in (object_at s a)
member_by s _ = None

-- ---- names

-- the own name of a type, or the name of a member
abbrev pub name_of : Queries → Option TypeExpr → Option FoundMember → Option (List ℕ)
name_of q (Some e) m = Some (q.label e)
name_of q None m = option_map (λ (x : FoundMember). q.title x.item) m

-- MemberInfo.get_Name()
unfoldable pub member_name_form : CoreForm
member_name_form q (v ∷ []) s give = given (name_of q (typed_by s v) (member_by s v)) s (λ bytes. gives_text (units_of_bytes bytes) s give)
member_name_form q _ s give = stuck s

-- ---- types: a Type object never has a generic parameter in it, so what would give one ends the run

abbrev pub gives_closed : State → Gives → Option TypeExpr → Next
gives_closed s give None = stopped s
gives_closed s give (Some e) = gives_type e s give

-- the closed type in which a member was found; a definition with parameters is one, a base with them as arguments isn't
abbrev pub closed_owner : Queries → TypeExpr → Option TypeExpr
closed_owner q e = if list_all (λ a. is_whole (standing q.head a)) (args_of e) then Some e else None

-- the definition that a type is nested in, or the type in which a member was found
abbrev pub owner_by : Queries → State → Gives → Option TypeExpr → Option FoundMember → Next
owner_by q s give (Some e) m = gives_encloser s give (option_and_then q.encloser (definition_of e))
owner_by q s give None m = given m s (λ m. gives_closed s give (closed_owner q m.owner))

-- MemberInfo.get_DeclaringType()
unfoldable pub member_owner_form : CoreForm
member_owner_form q (v ∷ []) s give = owner_by q s give (typed_by s v) (member_by s v)
member_owner_form q _ s give = stuck s

-- what a method returns, or a field or a property is of; None for a type without meaning
abbrev pub type_of_item : Queries → Item → Option TypeExpr
type_of_item q (item.Method m) = option_map (λ (sig : Signature). sig.ret) (option_and_then (λ (f : Method). good f.signature) (q.method m.0))
type_of_item q (item.Field f) = option_and_then (λ (d : FieldDef). good d.typ) (q.field f.0)
type_of_item q (item.Prop p) = option_and_then (λ (d : PropertyDef). good d.typ) (q.property p.0)
type_of_item q _ = None

-- with the arguments of the type in which the member was found
abbrev pub closed_type : Queries → FoundMember → Option TypeExpr
closed_type q m = option_and_then (closed_return q (args_of m.owner) []) (type_of_item q m.item)

-- MethodInfo.get_ReturnType(), FieldInfo.get_FieldType(), PropertyInfo.get_PropertyType()
unfoldable pub member_type_form : CoreForm
member_type_form q (v ∷ []) s give = given (member_by s v) s (λ m. gives_closed s give (closed_type q m))
member_type_form q _ s give = stuck s

-- ---- tests

abbrev pub is_static_item : Queries → Item → Option Bool
is_static_item q (item.Method m) = option_map (λ (d : Method). has_flag d.flags STATIC) (q.method m.0)
is_static_item q _ = None

-- MethodBase.get_IsStatic()
unfoldable pub method_is_static_form : CoreForm
method_is_static_form q (v ∷ []) s give =
    given (member_by s v) s (λ m. given (is_static_item q m.item) s (λ b. gives_truth b s give))
method_is_static_form q _ s give = stuck s

abbrev pub same_item : Item → Item → Bool
same_item (item.Method a) (item.Method b) = nat_eq a.0 b.0
same_item (item.Field a) (item.Field b) = nat_eq a.0 b.0
same_item (item.Prop a) (item.Prop b) = nat_eq a.0 b.0
same_item _ _ = false

-- the same member, found in the same closed type
abbrev pub same_found : Option FoundMember → Option FoundMember → Option Bool
same_found (Some x) (Some y) = Some (same_item x.item y.item && same_expr x.owner y.owner)
same_found _ _ = None

abbrev pub same_member : State → Value → Value → Option Bool
same_member s value.Null value.Null = Some true
same_member s value.Null (value.Object b) = Some false
same_member s (value.Object a) value.Null = Some false
same_member s (value.Object a) (value.Object b) = same_found (member_by s (value.Object a)) (member_by s (value.Object b))
same_member s _ _ = None

-- op_Equality of MethodInfo, FieldInfo and PropertyInfo: also of null
unfoldable pub member_same_form : CoreForm
member_same_form q (v ∷ w ∷ []) s give = given (same_member s v w) s (λ b. gives_truth b s give)
member_same_form q _ s give = stuck s

-- op_Inequality of MethodInfo, FieldInfo and PropertyInfo
unfoldable pub member_other_form : CoreForm
member_other_form q (v ∷ w ∷ []) s give = given (same_member s v w) s (λ b. gives_truth (not b) s give)
member_other_form q _ s give = stuck s
