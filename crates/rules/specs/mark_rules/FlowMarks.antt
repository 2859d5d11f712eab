-- What the flow of values makes necessary. A site in a marked item asks for members of a type that is known there, and those are needed;
-- a name that `Type.GetType` gets needs the type that it finds.
use Rattle.std.specs.Prelude.{ℕ, suc, List, [], ◌∷◌, ◌++◌, length, map, slice_get, ◌==◌, ◌||◌, Bool, Option, Some, None, if◌then◌else◌}
use Rattle.std.specs.List.{list_any, flat_map, filter}
use Rattle.il_base.specs.declared.ids.TypeId.{TypeId}
use Rattle.il_base.specs.declared.ids.Item.{Item}
use Rattle.il_base.specs.declared.ids.Item.TheVariants as item
use Rattle.il_base.specs.declared.world_model.members.FieldRow.{FieldRow}
use Rattle.il_base.specs.declared.world_model.members.MethodDefRow.{MethodDefRow}
use Rattle.il_base.specs.declared.world_model.members.PropertyRow.{PropertyRow}
use Rattle.il_base.specs.declared.world_model.members.EventRow.{EventRow}
use Rattle.il_base.specs.declared.world_model.record.AsmRec.{AsmRec}
use Rattle.il_base.specs.world_model.Core.{same_name}
use Rattle.rules.specs.declared.link_rules.row_at.RowAt.{RowAt}
use Rattle.rules.specs.link_rules.Members.{type_home}
use Rattle.rules.specs.link_rules.Cycles.{listed}
use Rattle.rules.specs.type_rules.Rows.{each_row, rec_at, field_row_at}
use Rattle.rules.specs.step_rules.Objects.{bytes_of_units}
use Rattle.rules.specs.mark_rules.Facts.{Fact}
use Rattle.rules.specs.mark_rules.Facts.Fact.{marked, instantiated, reflected, shown}
use Rattle.rules.specs.mark_rules.Places.{method_item, field_item, prop_item, event_item}
use Rattle.rules.specs.mark_rules.Properties.{property_accessors, event_accessors}
use Rattle.rules.specs.declared.mark_rules.member_kinds.TheConstants as kind
use Rattle.rules.specs.mark_rules.Members.{has_kind, has_method_row, members_by, constructors_by, methods_by, fields_by, properties_by, events_by}
use Rattle.rules.specs.declared.flow_rules.source.Source.{Source}
use Rattle.rules.specs.declared.flow_rules.source.Source.TheVariants as source
use Rattle.rules.specs.flow_rules.Sources.{type_of_text}
use Rattle.rules.specs.declared.site_rules.target.Target.{Target}
use Rattle.rules.specs.declared.site_rules.target.Target.TheVariants as target
use Rattle.rules.specs.declared.site_rules.site.Site.{Site}
use Rattle.rules.specs.site_rules.Fails.{is_text_slot}
use Rattle.rules.specs.site_rules.Items.{item_sites}

-- ---- the types that are known at a site: a known type, and in a slot of texts what a known text finds from each input

abbrev pub found_from : List AsmRec → List ℕ → ℕ → AsmRec → List TypeId
found_from recs text a rec = if suc a == length recs then [] else listed (type_of_text recs a text)

abbrev pub found_by_inputs : List AsmRec → List ℕ → List TypeId
found_by_inputs recs text = each_row (found_from recs text) recs

abbrev pub known_types : List AsmRec → Target → Source → List TypeId
known_types recs to (source.KnownType t) = t ∷ []
known_types recs to (source.KnownText text) = if is_text_slot recs to then found_by_inputs recs text else []
known_types recs to _ = []

-- ---- the members that a site asks for: those of its kinds, and where all names are known, those with one of them

-- whether a text of the code is a name of metadata, as a running program compares them
abbrev pub is_name : List ℕ → List ℕ → Bool
is_name name text = same_name name (bytes_of_units text)

abbrev pub is_among : List (List ℕ) → List ℕ → Bool
is_among names name = list_any (is_name name) names

abbrev pub is_method_among : List AsmRec → List (List ℕ) → RowAt → Bool
is_method_among recs names at = has_method_row recs (λ (m : MethodDefRow). is_among names m.name) at

abbrev pub is_field_among : List AsmRec → List (List ℕ) → RowAt → Bool
is_field_among recs names at = list_any (λ (f : FieldRow). is_among names f.name) (listed (field_row_at recs at))

abbrev pub is_property_among : List AsmRec → List (List ℕ) → RowAt → Bool
is_property_among recs names at =
    list_any (λ (rec : AsmRec). list_any (λ (p : PropertyRow). is_among names p.name) (listed (slice_get rec.property at.row))) (listed (rec_at recs at))

abbrev pub is_event_among : List AsmRec → List (List ℕ) → RowAt → Bool
is_event_among recs names at =
    list_any (λ (rec : AsmRec). list_any (λ (e : EventRow). is_among names e.name) (listed (slice_get rec.event at.row))) (listed (rec_at recs at))

abbrev pub with_accessors : List AsmRec → Item → List RowAt → List Item
with_accessors recs i accessors = i ∷ map (method_item recs) accessors

-- A property or event comes with all its accessors, whatever their names are. Nested types and interface rows aren't searched by name.
unfoldable pub named_members : List AsmRec → List (List ℕ) → ℕ → RowAt → List Item
named_members recs names flags t =
    map (method_item recs) (filter (is_method_among recs names) (constructors_by recs flags t ++ methods_by recs flags t))
    ++ map (field_item recs) (filter (is_field_among recs names) (fields_by recs flags t))
    ++ flat_map (λ p. with_accessors recs (prop_item recs p) (property_accessors recs p)) (filter (is_property_among recs names) (properties_by recs flags t))
    ++ flat_map (λ e. with_accessors recs (event_item recs e) (event_accessors recs e)) (filter (is_event_among recs names) (events_by recs flags t))

abbrev pub asked_members : List AsmRec → Option (List (List ℕ)) → ℕ → RowAt → List Item
asked_members recs None flags t = members_by recs flags t
asked_members recs (Some names) flags t = named_members recs names flags t

-- ---- a known type is marked and shown, and what is asked of it is marked and reflected; constructors make it instantiated

abbrev pub names_constructors : ℕ → Bool
names_constructors kinds = has_kind kinds kind.PUBLIC_PARAMETERLESS_CONSTRUCTOR || has_kind kinds kind.OTHER_PUBLIC_CONSTRUCTORS || has_kind kinds kind.NON_PUBLIC_CONSTRUCTORS

abbrev pub seen : TypeId → List Fact
seen t = marked (item.Typ t) ∷ shown t ∷ []

abbrev pub reach : Item → List Fact
reach i = marked i ∷ reflected i ∷ []

abbrev pub made_if : Bool → TypeId → List Fact
made_if b t = if b then instantiated t ∷ [] else []

abbrev pub asked_of : List AsmRec → Site → TypeId → List Fact
asked_of recs s t = seen t ++ made_if (names_constructors s.kinds) t ++ flat_map reach (flat_map (asked_members recs s.names s.kinds) (listed (type_home recs t)))

-- ---- a known name that `Type.GetType` gets marks and shows the type that it finds from the method's assembly

abbrev pub found_by_name : List AsmRec → ℕ → Source → List Fact
found_by_name recs asm (source.KnownText text) = flat_map seen (listed (type_of_text recs asm text))
found_by_name recs asm _ = []

-- ---- the rules

abbrev pub source_marks : List AsmRec → Site → Target → Source → List Fact
source_marks recs s (target.Name m) x = found_by_name recs s.place.asm x
source_marks recs s to x = flat_map (asked_of recs s) (known_types recs to x)

unfoldable pub site_marks : List AsmRec → Site → List Fact
site_marks recs s = flat_map (source_marks recs s s.target) s.sources

-- what the sites of a marked item mark
unfoldable pub flow_marks : List AsmRec → Item → List Fact
flow_marks recs i = flat_map (site_marks recs) (item_sites recs i)
