-- Which kinds of members are promised of what a source stands for, and which kinds the members of reflection ask for.
use Rattle.std.specs.Prelude.{ℕ, suc, List, length, codes, Option, Some, None, ◌==◌, ◌&&◌, ◌||◌, Bool, bit_or, if◌then◌else◌}
use Rattle.std.specs.List.{list_any}
use Rattle.std.specs.Option.{option_and_then}
use Rattle.il_base.specs.declared.ids.TypeId.{TypeId}
use Rattle.il_base.specs.declared.ids.MethodId.{MethodId}
use Rattle.il_base.specs.declared.ids.FieldId.{FieldId}
use Rattle.il_base.specs.declared.sig.MethodSig.{MethodSig}
use Rattle.il_base.specs.declared.world_model.types.TypeDefRow.{TypeDefRow}
use Rattle.il_base.specs.declared.world_model.record.AsmRec.{AsmRec}
use Rattle.il_base.specs.world_model.Core.{same_name}
use Rattle.rules.specs.declared.link_rules.row_at.RowAt.{RowAt}
use Rattle.rules.specs.link_rules.Members.{home_from, type_home, fields_in}
use Rattle.rules.specs.link_rules.Cycles.{listed}
use Rattle.rules.specs.type_rules.Slots.{method_home, type_of_method}
use Rattle.rules.specs.type_rules.Rows.{type_row_at}
use Rattle.rules.specs.mark_rules.Annotations.{Holder, parameter, return_value, field, type_parameter, method_parameter}
use Rattle.rules.specs.declared.mark_rules.member_kinds.TheConstants as kind
use Rattle.rules.specs.declared.flow_rules.source.Source.{Source}
use Rattle.rules.specs.declared.flow_rules.source.Source.TheVariants as source
use Rattle.rules.specs.flow_rules.Sources.{is_called}
use Rattle.rules.specs.site_rules.Signatures.{signature_at, any_of}
use Rattle.rules.specs.site_rules.Flags.{flags_of}

-- ---- annotations

abbrev pub field_home : List AsmRec → FieldId → Option RowAt
field_home recs f = home_from fields_in 0 recs f.0

abbrev pub flags_with : List AsmRec → (RowAt → Holder) → Option RowAt → ℕ
flags_with recs holder None = 0
flags_with recs holder (Some at) = flags_of recs (holder at)

-- a parameter of a method, counted from 0 without `this`
unfoldable pub parameter_kinds : List AsmRec → MethodId → ℕ → ℕ
parameter_kinds recs m n = flags_with recs (λ at. parameter at n) (method_home recs m)

unfoldable pub return_kinds : List AsmRec → MethodId → ℕ
return_kinds recs m = flags_with recs return_value (method_home recs m)

unfoldable pub field_kinds : List AsmRec → FieldId → ℕ
field_kinds recs f = flags_with recs field (field_home recs f)

-- a generic parameter of a type, and of a method
unfoldable pub type_kinds : List AsmRec → TypeId → ℕ → ℕ
type_kinds recs t k = flags_with recs (λ at. type_parameter at k) (type_home recs t)

unfoldable pub own_method_kinds : List AsmRec → MethodId → ℕ → ℕ
own_method_kinds recs m k = flags_with recs (λ at. method_parameter at k) (method_home recs m)

-- the kinds of members that the annotation of a source's holder promises, in the method m; 0 without one
unfoldable pub promised : List AsmRec → MethodId → Source → ℕ
promised recs m (source.Parameter n) = parameter_kinds recs m n
promised recs m (source.Return n) = return_kinds recs n
promised recs m (source.Field f) = field_kinds recs f
promised recs m (source.TypeParam t n) = type_kinds recs t n
promised recs m (source.MethodParam n) = own_method_kinds recs m n
promised recs m _ = 0

-- ---- members of reflection of the core library, by their names

abbrev pub is_system_class : List ℕ → TypeDefRow → Bool
is_system_class class t = same_name t.namespace (codes "System") && same_name t.name class

abbrev pub is_core_class : List AsmRec → List ℕ → RowAt → Bool
is_core_class recs class t = suc t.asm == length recs && list_any (is_system_class class) (listed (type_row_at recs t))

abbrev pub is_of_class : List AsmRec → List ℕ → RowAt → Bool
is_of_class recs class at = list_any (is_core_class recs class) (listed (type_of_method recs at))

-- a member of a class in the namespace System, by their names
unfoldable pub is_core_member : List AsmRec → MethodId → List ℕ → List ℕ → Bool
is_core_member recs m class name = list_any (λ (at : RowAt). is_called recs name at && is_of_class recs class at) (listed (method_home recs m))

-- `Type.GetType`
unfoldable pub is_name_search : List AsmRec → MethodId → Bool
is_name_search recs m = is_core_member recs m (codes "Type") (codes "GetType")

unfoldable pub is_type_search : List AsmRec → MethodId → List ℕ → List ℕ → Bool
is_type_search recs m one all = is_core_member recs m (codes "Type") one || is_core_member recs m (codes "Type") all

-- what a search asks for of the type that it is called on; 0 for any other method
unfoldable pub searched_kinds : List AsmRec → MethodId → ℕ
searched_kinds recs m =
    if is_type_search recs m (codes "GetMethod") (codes "GetMethods") then kind.PUBLIC_METHODS
    else if is_type_search recs m (codes "GetField") (codes "GetFields") then kind.PUBLIC_FIELDS
    else if is_type_search recs m (codes "GetProperty") (codes "GetProperties") then kind.PUBLIC_PROPERTIES
    else 0

-- `Activator.CreateInstance`
unfoldable pub is_creation : List AsmRec → MethodId → Bool
is_creation recs m = is_core_member recs m (codes "Activator") (codes "CreateInstance")

-- a method with one generic parameter
unfoldable pub has_one_parameter : List AsmRec → MethodId → Bool
has_one_parameter recs m = any_of (λ (s : MethodSig). s.generic == 1) (option_and_then (signature_at recs) (method_home recs m))

-- what `Activator.CreateInstance<T>` asks for of T; 0 for any other method
unfoldable pub made_kinds : List AsmRec → MethodId → ℕ → ℕ
made_kinds recs m k = if k == 0 && is_creation recs m && has_one_parameter recs m then kind.PUBLIC_PARAMETERLESS_CONSTRUCTOR else 0

-- what is asked for of an argument for a method's generic parameter
abbrev pub method_kinds : List AsmRec → MethodId → ℕ → ℕ
method_kinds recs m k = bit_or (own_method_kinds recs m k) (made_kinds recs m k)
