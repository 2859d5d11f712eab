-- The members of a type that have one of some names, in four parts.
use Rattle.std.specs.Prelude.{ℕ, List, ◌++◌, map}
use Rattle.std.specs.List.{flat_map, filter}
use Rattle.il_base.specs.declared.ids.Item.{Item}
use Rattle.il_base.specs.declared.world_model.record.AsmRec.{AsmRec}
use Rattle.rules.specs.declared.link_rules.row_at.RowAt.{RowAt}
use Rattle.rules.specs.mark_rules.Places.{method_item, field_item, prop_item, event_item}
use Rattle.rules.specs.mark_rules.Properties.{property_accessors, event_accessors}
use Rattle.rules.specs.mark_rules.Members.{constructors_by, methods_by, fields_by, properties_by, events_by}
use Rattle.rules.specs.mark_rules.FlowMarks.{is_method_among, is_field_among, is_property_among, is_event_among, with_accessors}

abbrev pub named_methods : List AsmRec → List (List ℕ) → ℕ → RowAt → List Item
named_methods recs names kinds t = map (method_item recs) (filter (is_method_among recs names) (constructors_by recs kinds t ++ methods_by recs kinds t))

abbrev pub named_fields : List AsmRec → List (List ℕ) → ℕ → RowAt → List Item
named_fields recs names kinds t = map (field_item recs) (filter (is_field_among recs names) (fields_by recs kinds t))

abbrev pub named_properties : List AsmRec → List (List ℕ) → ℕ → RowAt → List Item
named_properties recs names kinds t = flat_map (λ p. with_accessors recs (prop_item recs p) (property_accessors recs p)) (filter (is_property_among recs names) (properties_by recs kinds t))

abbrev pub named_events : List AsmRec → List (List ℕ) → ℕ → RowAt → List Item
named_events recs names kinds t = flat_map (λ e. with_accessors recs (event_item recs e) (event_accessors recs e)) (filter (is_event_among recs names) (events_by recs kinds t))
