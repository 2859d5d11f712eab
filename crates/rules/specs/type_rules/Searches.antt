-- Searches: a type by the name that a text gives it, the members of a type that reflection finds, all or those of a name.
use Rattle.std.specs.Prelude.{ℕ, suc, ◌+◌, ◌-◌, List, [], ◌∷◌, ◌++◌, length, map, codes, Option, Some, None, slice_get, ◌==◌, ◌&&◌, ◌||◌, Bool, true, false, not, if◌then◌else◌}
use Rattle.std.specs.List.{list_any, flat_map, filter, range_with_len}
use Rattle.std.specs.Option.{option_map, option_and_then}
use Rattle.il_base.specs.declared.table.TheConstants.{TYPE_DEF, METHOD_DEF, EVENT, PROPERTY}
use Rattle.il_base.specs.declared.ids.TypeId.{TypeId}
use Rattle.il_base.specs.declared.ids.Item.{Item}
use Rattle.il_base.specs.declared.ids.Item.TheVariants as item
use Rattle.il_base.specs.declared.field_flags.TheConstants as field_flags
use Rattle.il_base.specs.Flags.{has_flag, access_of}
use Rattle.il_base.specs.declared.world_model.expr.TypeExpr.{TypeExpr}
use Rattle.il_base.specs.declared.world_model.expr.MethodUse.{MethodUse}
use Rattle.il_base.specs.declared.world_model.types.TypeDefRow.{TypeDefRow}
use Rattle.il_base.specs.declared.world_model.members.MethodDefRow.{MethodDefRow}
use Rattle.il_base.specs.declared.world_model.members.FieldRow.{FieldRow}
use Rattle.il_base.specs.declared.world_model.members.PropertyRow.{PropertyRow}
use Rattle.il_base.specs.declared.world_model.members.PropertyMapRow.{PropertyMapRow}
use Rattle.il_base.specs.declared.world_model.members.EventRow.{EventRow}
use Rattle.il_base.specs.declared.world_model.members.EventMapRow.{EventMapRow}
use Rattle.il_base.specs.declared.world_model.members.MethodSemanticsRow.{MethodSemanticsRow}
use Rattle.il_base.specs.declared.world_model.members.MethodImplRow.{MethodImplRow}
use Rattle.il_base.specs.declared.world_model.record.AsmRec.{AsmRec}
use Rattle.il_base.specs.world_model.Tokens.{token_of, index_in}
use Rattle.il_base.specs.world_model.Core.{same_name}
use Rattle.il_base.specs.world_model.Worlds.{rows_before, type_id}
use Rattle.attr_blobs.specs.declared.name.TypeName.{TypeName}
use Rattle.rules.specs.declared.link_rules.row_at.RowAt.{RowAt}
use Rattle.rules.specs.declared.type_rules.found_member.FoundMember.{FoundMember}
use Rattle.rules.specs.link_rules.Types.{at_row, listed_at, or_else, assembly_named, encloser, same_place}
use Rattle.rules.specs.link_rules.Signatures.{definition_expr}
use Rattle.rules.specs.link_rules.Members.{methods_in, fields_in, owns_method, run_of, type_home, generic_method, with_bases}
use Rattle.rules.specs.link_rules.Cycles.{listed, same_row, home_of}
use Rattle.rules.specs.type_rules.Slots.{is_static, is_public, method_row_at, method_home, slot_of, is_slot}
use Rattle.rules.specs.type_rules.Dispatch.{good_use, body_at}
use Rattle.rules.specs.type_rules.Texts.{part_name}

-- ---- types by name

abbrev pub named_from : AsmRec → Option ℕ → List ℕ → ℕ → List TypeDefRow → Option ℕ
named_from rec around name k [] = None
named_from rec around name k (t ∷ ts) =
    if same_name (part_name (encloser rec k) t) name && same_place (encloser rec k) around then Some k else named_from rec around name (suc k) ts

-- the first type of an assembly with this encloser and this name, which is the full name of a type that isn't nested, and the
-- name alone of a nested one, as in its text
abbrev pub named_within : AsmRec → Option ℕ → List ℕ → Option ℕ
named_within rec around name = named_from rec around name 0 rec.type_def

-- the nested type that the rest of a path names
unfoldable pub nested_along : AsmRec → List (List ℕ) → Option ℕ → Option ℕ
nested_along rec path None = None
nested_along rec [] (Some k) = Some k
nested_along rec (name ∷ path) (Some k) = nested_along rec path (named_within rec (Some k) name)

-- the type that a path names; `<Module>` is never found
unfoldable pub type_along : AsmRec → List (List ℕ) → Option ℕ
type_along rec [] = None
type_along rec (name ∷ path) = if same_name name (codes "<Module>") then None else nested_along rec path (named_within rec None name)

abbrev pub type_along_at : List AsmRec → List (List ℕ) → ℕ → Option TypeId
type_along_at recs path a =
    option_map (λ (at : RowAt). type_id recs at.asm at.row) (option_and_then (listed_at recs) (option_map (at_row a) (option_and_then (λ rec. type_along rec path) (slice_get recs a))))

abbrev pub or_core : List AsmRec → List (List ℕ) → Option TypeId → Option TypeId
or_core recs path found = or_else found (type_along_at recs path (length recs - 1))

abbrev pub find_by : List AsmRec → ℕ → List (List ℕ) → Option (List ℕ) → Option TypeId
find_by recs from path None = or_core recs path (type_along_at recs path from)
find_by recs from path (Some name) = option_and_then (type_along_at recs path) (assembly_named recs name)

-- A name without an assembly is looked for in the assembly that asks and then in the core library, one with an assembly in
-- that alone.
unfoldable pub find_type : List AsmRec → ℕ → TypeName → Option TypeId
find_type recs from n = find_by recs from n.path n.asm

-- ---- members

-- whether a search wants a name: any, or this one
abbrev pub is_wanted : Option (List ℕ) → List ℕ → Bool
is_wanted None name = true
is_wanted (Some wanted) name = same_name name wanted

-- the places of a run's rows, from 0
abbrev pub places : {A : Type 0} → ℕ → ℕ → List A → List ℕ
places first end rows = range_with_len (first - 1) (length (run_of first end rows))

-- the rows of a kind that the definition of a type has
abbrev pub rows_of : List AsmRec → (AsmRec → TypeDefRow → ℕ → List ℕ) → TypeExpr → List RowAt
rows_of recs members e =
    flat_map (λ (at : RowAt). flat_map (λ (rec : AsmRec). flat_map (λ (t : TypeDefRow). map (at_row at.asm) (members rec t at.row)) (listed (slice_get rec.type_def at.row))) (listed (slice_get recs at.asm)))
    (listed (home_of recs e))

-- those of a type's rows that pass a test and that no row before hides
abbrev pub visible : (RowAt → RowAt → Bool) → (RowAt → Bool) → List RowAt → List RowAt → List RowAt
visible hides test before rows = filter (λ x. test x && not (list_any (λ y. hides y x) before)) rows

-- Of a type and its bases the rows that pass and that no row before hides, as members. The test is told whether a type is a base.
abbrev pub collect : (TypeExpr → RowAt → FoundMember) → (RowAt → RowAt → Bool) → (TypeExpr → List RowAt) → (Bool → RowAt → Bool) → Bool → List RowAt → List TypeExpr → List FoundMember
collect make hides rows test inherited before [] = []
collect make hides rows test inherited before (e ∷ es) =
    map (make e) (visible hides (test inherited) before (rows e)) ++ collect make hides rows test true (before ++ visible hides (test inherited) before (rows e)) es

-- a row as a member of a type
abbrev pub member_at : List AsmRec → (AsmRec → ℕ) → (ℕ → Item) → TypeExpr → RowAt → FoundMember
member_at recs count item e at = record { item = item (rows_before count recs at.asm + at.row); owner = e }

-- the members that a test lets pass, in the first of some types and then in its bases
abbrev pub collected : (TypeExpr → RowAt → FoundMember) → (RowAt → RowAt → Bool) → (TypeExpr → List RowAt) → (Bool → RowAt → Bool) → List TypeExpr → List FoundMember
collected make hides rows test es = collect make hides rows test false [] es

-- ---- fields

abbrev pub field_places : AsmRec → TypeDefRow → ℕ → List ℕ
field_places rec t k = places t.field_list_first t.field_list_end rec.field

abbrev pub field_test : List AsmRec → (FieldRow → Bool) → RowAt → Bool
field_test recs test at = list_any (λ (rec : AsmRec). list_any test (listed (slice_get rec.field at.row))) (listed (slice_get recs at.asm))

-- whether a field is public, and of instances where it is inherited, by its flags (II.23.1.5)
abbrev pub is_public_field : Option (List ℕ) → Bool → FieldRow → Bool
is_public_field wanted inherited f =
    is_wanted wanted f.name && access_of f.flags == field_flags.PUBLIC && (not inherited || not (has_flag f.flags field_flags.STATIC))

abbrev pub hides_nothing : RowAt → RowAt → Bool
hides_nothing x y = false

abbrev pub field_of : ℕ → Item
field_of n = item.Field (record { 0 = n })

unfoldable pub fields_found : List AsmRec → Option (List ℕ) → List TypeExpr → List FoundMember
fields_found recs wanted es =
    collected (member_at recs fields_in field_of) hides_nothing (rows_of recs field_places) (λ inherited. field_test recs (is_public_field wanted inherited)) es

-- ---- methods

abbrev pub method_places : AsmRec → TypeDefRow → ℕ → List ℕ
method_places rec t k = places t.method_list_first t.method_list_end rec.method_def

abbrev pub method_test : List AsmRec → (MethodDefRow → Bool) → RowAt → Bool
method_test recs test at = list_any test (listed (method_row_at recs at))

-- whether a method is an instance constructor or a type initializer (II.10.5.1, II.10.5.3)
abbrev pub is_constructor : MethodDefRow → Bool
is_constructor m = same_name m.name (codes ".ctor") || same_name m.name (codes ".cctor")

-- whether a method is public and no constructor, and of instances where it is inherited
abbrev pub is_public_method : Option (List ℕ) → Bool → MethodDefRow → Bool
is_public_method wanted inherited m = is_wanted wanted m.name && is_public m && not (is_constructor m) && (not inherited || not (is_static m))

abbrev pub same_slot : Option RowAt → Option RowAt → Bool
same_slot None y = false
same_slot (Some x) y = is_slot y x

-- whether a MethodImpl row has this body and a declaration with this slot
abbrev pub declares : List AsmRec → Option RowAt → MethodUse → Bool
declares recs slot d = list_any (λ at. same_slot slot (slot_of recs at)) (listed (method_home recs d.method))

abbrev pub is_impl : List AsmRec → TypeExpr → RowAt → Option RowAt → RowAt → AsmRec → MethodImplRow → Bool
is_impl recs e body slot at rec row =
    row.class == token_of TYPE_DEF (suc at.row)
    && list_any (λ (b : MethodUse). list_any (same_row body) (listed (option_and_then (body_at recs e) (method_home recs b.method)))) (listed (good_use (generic_method recs at.asm rec row.body)))
    && list_any (declares recs slot) (listed (good_use (generic_method recs at.asm rec row.declaration)))

abbrev pub has_impl : List AsmRec → RowAt → Option RowAt → TypeExpr → Bool
has_impl recs body slot e =
    list_any (λ (at : RowAt). list_any (λ (rec : AsmRec). list_any (is_impl recs e body slot at rec) rec.method_impl) (listed (slice_get recs at.asm))) (listed (home_of recs e))

-- whether a method overrides another: it has its slot, or a MethodImpl row of one of these types says so
unfoldable pub overrides : List AsmRec → List TypeExpr → RowAt → RowAt → Bool
overrides recs es m b = same_slot (slot_of recs m) (slot_of recs b) || list_any (has_impl recs m (slot_of recs b)) es

abbrev pub method_of : ℕ → Item
method_of n = item.Method (record { 0 = n })

unfoldable pub methods_found : List AsmRec → Option (List ℕ) → List TypeExpr → List FoundMember
methods_found recs wanted es =
    collected (member_at recs methods_in method_of) (overrides recs es) (rows_of recs method_places) (λ inherited. method_test recs (is_public_method wanted inherited)) es

-- ---- properties and events: they are public, of instances, or override, where an accessor is or does (II.22.28)

-- whether a type's run has a method; a row that no run has belongs to nobody (II.22.37)
abbrev pub has_owner : AsmRec → ℕ → Bool
has_owner rec k = list_any (owns_method (suc k)) rec.type_def

abbrev pub accessor_of : AsmRec → ℕ → MethodSemanticsRow → List ℕ
accessor_of rec token row = if row.association == token then filter (has_owner rec) (listed (index_in METHOD_DEF row.method)) else []

-- the accessors of a row of a table of an assembly
abbrev pub accessors : List AsmRec → ℕ → RowAt → List RowAt
accessors recs table at =
    flat_map (λ (rec : AsmRec). map (at_row at.asm) (flat_map (accessor_of rec (token_of table (suc at.row))) rec.method_semantics)) (listed (slice_get recs at.asm))

abbrev pub accessor_test : List AsmRec → ℕ → (MethodDefRow → Bool) → RowAt → Bool
accessor_test recs table test at = list_any (method_test recs test) (accessors recs table at)

abbrev pub is_public_accessor : MethodDefRow → Bool
is_public_accessor m = is_public m

abbrev pub is_instance_accessor : MethodDefRow → Bool
is_instance_accessor m = not (is_static m)

abbrev pub accessors_override : List AsmRec → List TypeExpr → ℕ → RowAt → RowAt → Bool
accessors_override recs es table x y = list_any (λ m. list_any (overrides recs es m) (accessors recs table y)) (accessors recs table x)

-- the runs of a type's rows in PropertyMap (II.22.35) and EventMap (II.22.12)
abbrev pub property_run : AsmRec → ℕ → PropertyMapRow → List ℕ
property_run rec token row = if row.parent == token then places row.property_list_first row.property_list_end rec.property else []

abbrev pub property_places : AsmRec → TypeDefRow → ℕ → List ℕ
property_places rec t k = flat_map (property_run rec (token_of TYPE_DEF (suc k))) rec.property_map

abbrev pub event_run : AsmRec → ℕ → EventMapRow → List ℕ
event_run rec token row = if row.parent == token then places row.event_list_first row.event_list_end rec.event else []

abbrev pub event_places : AsmRec → TypeDefRow → ℕ → List ℕ
event_places rec t k = flat_map (event_run rec (token_of TYPE_DEF (suc k))) rec.event_map

abbrev pub is_property_wanted : List AsmRec → Option (List ℕ) → RowAt → Bool
is_property_wanted recs wanted at =
    list_any (λ (rec : AsmRec). list_any (λ (p : PropertyRow). is_wanted wanted p.name) (listed (slice_get rec.property at.row))) (listed (slice_get recs at.asm))

abbrev pub is_event_wanted : List AsmRec → Option (List ℕ) → RowAt → Bool
is_event_wanted recs wanted at =
    list_any (λ (rec : AsmRec). list_any (λ (p : EventRow). is_wanted wanted p.name) (listed (slice_get rec.event at.row))) (listed (slice_get recs at.asm))

-- whether an accessor of a row is public, and one of instances where it is inherited
abbrev pub is_public_mapped : List AsmRec → ℕ → Bool → RowAt → Bool
is_public_mapped recs table inherited at =
    accessor_test recs table is_public_accessor at && (not inherited || accessor_test recs table is_instance_accessor at)

abbrev pub properties_in : AsmRec → ℕ
properties_in rec = length rec.property

abbrev pub events_in : AsmRec → ℕ
events_in rec = length rec.event

abbrev pub property_of : ℕ → Item
property_of n = item.Prop (record { 0 = n })

abbrev pub event_of : ℕ → Item
event_of n = item.Event (record { 0 = n })

unfoldable pub properties_found : List AsmRec → Option (List ℕ) → List TypeExpr → List FoundMember
properties_found recs wanted es =
    collected (member_at recs properties_in property_of) (accessors_override recs es PROPERTY) (rows_of recs property_places)
    (λ inherited at. is_property_wanted recs wanted at && is_public_mapped recs PROPERTY inherited at) es

unfoldable pub events_found : List AsmRec → Option (List ℕ) → List TypeExpr → List FoundMember
events_found recs wanted es =
    collected (member_at recs events_in event_of) (accessors_override recs es EVENT) (rows_of recs event_places)
    (λ inherited at. is_event_wanted recs wanted at && is_public_mapped recs EVENT inherited at) es

-- ---- all kinds

abbrev pub items_of : List FoundMember → List Item
items_of members = map (λ (m : FoundMember). m.item) members

abbrev pub along : List AsmRec → Option RowAt → List TypeExpr
along recs None = []
along recs (Some at) = with_bases recs (definition_expr recs at)

abbrev pub members_along : List AsmRec → List ℕ → List TypeExpr → List Item
members_along recs name es =
    items_of (fields_found recs (Some name) es) ++ items_of (methods_found recs (Some name) es)
    ++ items_of (properties_found recs (Some name) es) ++ items_of (events_found recs (Some name) es)

-- The public members of a type that have a name, in the order of their rows, then the public instance members of each base;
-- a method, property or event that one before overrides is left out. Fields come first, then methods, properties, events.
unfoldable pub members_named : List AsmRec → TypeId → List ℕ → List Item
members_named recs t name = members_along recs name (along recs (type_home recs t))
