-- The members of a type by their kinds, as annotations name them: constructors of the type alone; methods, fields, properties and
-- events of the type and its bases, where private ones of bases don't count; nested types with all that they hold; interface rows.
use Rattle.std.specs.Prelude.{ℕ, zero, suc, List, [], ◌∷◌, ◌++◌, length, map, codes, Some, ◌/◌, ◌%◌, ◌+◌, ◌*◌, ◌==◌, ◌&&◌, ◌||◌, Bool, false, not, if◌then◌else◌}
use Rattle.std.specs.List.{list_any, flat_map, filter}
use Rattle.il_base.specs.declared.ids.Item.{Item}
use Rattle.il_base.specs.declared.table.TheConstants.{TYPE_DEF}
use Rattle.il_base.specs.Flags.{has_flag, access_of}
use Rattle.il_base.specs.declared.type_flags.TheConstants as type_flag
use Rattle.il_base.specs.declared.method_flags.TheConstants as access
use Rattle.il_base.specs.declared.world_model.types.TypeDefRow.{TypeDefRow}
use Rattle.il_base.specs.declared.world_model.types.InterfaceImplRow.{InterfaceImplRow}
use Rattle.il_base.specs.declared.world_model.members.FieldRow.{FieldRow}
use Rattle.il_base.specs.declared.world_model.members.MethodDefRow.{MethodDefRow}
use Rattle.il_base.specs.declared.world_model.members.PropertyMapRow.{PropertyMapRow}
use Rattle.il_base.specs.declared.world_model.members.EventMapRow.{EventMapRow}
use Rattle.il_base.specs.declared.world_model.known.Known.{Known}
use Rattle.il_base.specs.declared.world_model.known.Known.TheVariants.{Good, Bad}
use Rattle.il_base.specs.declared.sig.MethodSig.{MethodSig}
use Rattle.il_base.specs.declared.world_model.record.AsmRec.{AsmRec}
use Rattle.il_base.specs.world_model.Tokens.{token_of}
use Rattle.il_base.specs.world_model.Core.{same_name}
use Rattle.rules.specs.declared.link_rules.row_at.RowAt.{RowAt}
use Rattle.rules.specs.link_rules.Types.{at_row, encloser, same_place}
use Rattle.rules.specs.link_rules.Members.{with_bases}
use Rattle.rules.specs.link_rules.Cycles.{listed, same_row, home_of}
use Rattle.rules.specs.type_rules.Slots.{is_static, method_row_at, open_type}
use Rattle.rules.specs.type_rules.Initializers.{are_none}
use Rattle.rules.specs.type_rules.Rows.{each_row, field_row_at, fields_of_type, methods_of_type, rec_at, run_places, type_row_at}
use Rattle.rules.specs.declared.mark_rules.member_kinds.TheConstants as kind
use Rattle.rules.specs.mark_rules.Places.{type_item, method_item, field_item, prop_item, event_item, impl_item}
use Rattle.rules.specs.mark_rules.Properties.{property_accessors, event_accessors}

-- whether flags name a kind
abbrev pub has_kind : ℕ → ℕ → Bool
has_kind kinds k = has_flag kinds k

-- ---- accessibility (II.23.1.5, II.23.1.10)

abbrev pub is_public_access : ℕ → Bool
is_public_access flags = access_of flags == access.PUBLIC

abbrev pub is_private_access : ℕ → Bool
is_private_access flags = access_of flags == access.PRIVATE

-- whether flags name a member: bit 1 a public one, bit 2 another one; of a base a private member doesn't count
abbrev pub counts : Bool → ℕ → ℕ → Bool
counts own flags access =
    is_public_access access && has_kind flags 1 || not (is_public_access access) && has_kind flags 2 && (own || not (is_private_access access))

-- two kinds, the public one and the other, as bits 1 and 2 of flags
abbrev pub pair : ℕ → ℕ → ℕ → ℕ
pair kinds public other = kinds / public % 2 + 2 * (kinds / other % 2)

-- ---- bases

-- a type, and then its bases, by their definitions; an interface has no base
abbrev pub lineage : List AsmRec → RowAt → List RowAt
lineage recs at = flat_map (λ e. listed (home_of recs e)) (with_bases recs (open_type recs at))

abbrev pub is_own : RowAt → RowAt → Bool
is_own t c = same_row t c

-- ---- constructors (II.10.5.1)

abbrev pub is_constructor : MethodDefRow → Bool
is_constructor m = same_name m.name (codes ".ctor") && not (is_static m)

-- a constructor or a type initializer (II.10.5.3); a static method named `.ctor` is a method as any other
abbrev pub is_any_constructor : MethodDefRow → Bool
is_any_constructor m = is_constructor m || same_name m.name (codes ".cctor")

abbrev pub is_parameterless_sig : Known MethodSig → Bool
is_parameterless_sig (Good s) = are_none s.params && s.generic == 0
is_parameterless_sig (Bad why) = false

abbrev pub constructor_counts : ℕ → MethodDefRow → Bool
constructor_counts flags m =
    is_constructor m
    && (if is_public_access m.flags
    then (if is_parameterless_sig m.signature then has_kind flags kind.PUBLIC_PARAMETERLESS_CONSTRUCTOR else has_kind flags kind.OTHER_PUBLIC_CONSTRUCTORS)
    else has_kind flags kind.NON_PUBLIC_CONSTRUCTORS)

abbrev pub has_method_row : List AsmRec → (MethodDefRow → Bool) → RowAt → Bool
has_method_row recs test at = list_any test (listed (method_row_at recs at))

unfoldable pub constructors_by : List AsmRec → ℕ → RowAt → List RowAt
constructors_by recs flags t = filter (has_method_row recs (constructor_counts flags)) (methods_of_type recs t)

-- ---- methods and fields

abbrev pub method_counts : Bool → ℕ → MethodDefRow → Bool
method_counts own two m = not (is_any_constructor m) && counts own two m.flags

unfoldable pub methods_by : List AsmRec → ℕ → RowAt → List RowAt
methods_by recs flags t =
    flat_map (λ c. filter (has_method_row recs (method_counts (is_own t c) (pair flags kind.PUBLIC_METHODS kind.NON_PUBLIC_METHODS))) (methods_of_type recs c)) (lineage recs t)

abbrev pub has_field_row : List AsmRec → (FieldRow → Bool) → RowAt → Bool
has_field_row recs test at = list_any test (listed (field_row_at recs at))

unfoldable pub fields_by : List AsmRec → ℕ → RowAt → List RowAt
fields_by recs flags t =
    flat_map (λ c. filter (has_field_row recs (λ (f : FieldRow). counts (is_own t c) (pair flags kind.PUBLIC_FIELDS kind.NON_PUBLIC_FIELDS) f.flags)) (fields_of_type recs c)) (lineage recs t)

-- ---- properties and events: public where an accessor is; of a base not private where an accessor isn't

abbrev pub property_places_by : AsmRec → ℕ → PropertyMapRow → List ℕ
property_places_by rec token row = if row.parent == token then run_places row.property_list_first row.property_list_end rec.property else []

unfoldable pub properties_of_type : List AsmRec → RowAt → List RowAt
properties_of_type recs at =
    flat_map (λ (rec : AsmRec). map (at_row at.asm) (flat_map (property_places_by rec (token_of TYPE_DEF (suc at.row))) rec.property_map)) (listed (rec_at recs at))

abbrev pub event_places_by : AsmRec → ℕ → EventMapRow → List ℕ
event_places_by rec token row = if row.parent == token then run_places row.event_list_first row.event_list_end rec.event else []

unfoldable pub events_of_type : List AsmRec → RowAt → List RowAt
events_of_type recs at =
    flat_map (λ (rec : AsmRec). map (at_row at.asm) (flat_map (event_places_by rec (token_of TYPE_DEF (suc at.row))) rec.event_map)) (listed (rec_at recs at))

abbrev pub accessors_count : List AsmRec → Bool → ℕ → List RowAt → Bool
accessors_count recs own two accessors =
    if list_any (has_method_row recs (λ (m : MethodDefRow). is_public_access m.flags)) accessors then has_kind two 1
    else has_kind two 2 && (own || list_any (has_method_row recs (λ (m : MethodDefRow). not (is_private_access m.flags))) accessors)

unfoldable pub properties_by : List AsmRec → ℕ → RowAt → List RowAt
properties_by recs flags t =
    flat_map (λ c. filter (λ p. accessors_count recs (is_own t c) (pair flags kind.PUBLIC_PROPERTIES kind.NON_PUBLIC_PROPERTIES) (property_accessors recs p)) (properties_of_type recs c)) (lineage recs t)

unfoldable pub events_by : List AsmRec → ℕ → RowAt → List RowAt
events_by recs flags t =
    flat_map (λ c. filter (λ e. accessors_count recs (is_own t c) (pair flags kind.PUBLIC_EVENTS kind.NON_PUBLIC_EVENTS) (event_accessors recs e)) (events_of_type recs c)) (lineage recs t)

-- ---- nested types (II.22.32)

abbrev pub nested_in : List AsmRec → RowAt → List RowAt
nested_in recs t =
    flat_map (λ (rec : AsmRec). each_row (λ k (row : TypeDefRow). if same_place (encloser rec k) (Some t.row) then at_row t.asm k ∷ [] else []) rec.type_def) (listed (rec_at recs t))

abbrev pub is_nested_public : List AsmRec → RowAt → Bool
is_nested_public recs at = list_any (λ (t : TypeDefRow). access_of t.flags == type_flag.NESTED_PUBLIC) (listed (type_row_at recs at))

abbrev pub nested_counts : List AsmRec → ℕ → RowAt → Bool
nested_counts recs flags at = if is_nested_public recs at then has_kind flags kind.PUBLIC_NESTED_TYPES else has_kind flags kind.NON_PUBLIC_NESTED_TYPES

-- all that a type holds, itself first, with the accessors of its properties and events
abbrev pub whole_type : List AsmRec → RowAt → List Item
whole_type recs at =
    type_item recs at ∷ map (method_item recs) (methods_of_type recs at) ++ map (field_item recs) (fields_of_type recs at)
    ++ flat_map (λ p. prop_item recs p ∷ map (method_item recs) (property_accessors recs p)) (properties_of_type recs at)
    ++ flat_map (λ e. event_item recs e ∷ map (method_item recs) (event_accessors recs e)) (events_of_type recs at)

-- all that a type holds, with the types nested in it, at most n levels: no chain of enclosers of a linked world is longer than its
-- assembly has types
unfoldable pub whole_within : List AsmRec → ℕ → RowAt → List Item
whole_within recs zero at = []
whole_within recs (suc n) at = whole_type recs at ++ flat_map (whole_within recs n) (nested_in recs at)

abbrev pub whole_nested : List AsmRec → RowAt → List Item
whole_nested recs at = flat_map (λ (rec : AsmRec). whole_within recs (suc (length rec.type_def)) at) (listed (rec_at recs at))

unfoldable pub nested_by : List AsmRec → ℕ → RowAt → List Item
nested_by recs flags t = flat_map (whole_nested recs) (filter (nested_counts recs flags) (nested_in recs t))

-- ---- interface rows of the type and its bases (II.22.23)

abbrev pub impls_of_type : List AsmRec → RowAt → List RowAt
impls_of_type recs at =
    flat_map (λ (rec : AsmRec). each_row (λ k (row : InterfaceImplRow). if row.class == token_of TYPE_DEF (suc at.row) then at_row at.asm k ∷ [] else []) rec.interface_impl) (listed (rec_at recs at))

unfoldable pub impls_by : List AsmRec → ℕ → RowAt → List RowAt
impls_by recs flags t = if has_kind flags kind.INTERFACES then flat_map (impls_of_type recs) (lineage recs t) else []

-- ---- all kinds

-- The members of a type that these kinds name. A property or event comes with all its accessors.
unfoldable pub members_by : List AsmRec → ℕ → RowAt → List Item
members_by recs flags t =
    map (method_item recs) (constructors_by recs flags t ++ methods_by recs flags t)
    ++ map (field_item recs) (fields_by recs flags t)
    ++ flat_map (λ p. prop_item recs p ∷ map (method_item recs) (property_accessors recs p)) (properties_by recs flags t)
    ++ flat_map (λ e. event_item recs e ∷ map (method_item recs) (event_accessors recs e)) (events_by recs flags t)
    ++ nested_by recs flags t
    ++ map (impl_item recs) (impls_by recs flags t)
