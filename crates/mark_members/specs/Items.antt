-- Items of rows.
use Rattle.std.specs.Prelude.{ℕ, List, ◌∷◌, ◌++◌, map}
use Rattle.std.specs.List.{flat_map}
use Rattle.il_base.specs.declared.ids.Item.{Item}
use Rattle.il_base.specs.declared.world_model.record.AsmRec.{AsmRec}
use Rattle.rules.specs.declared.link_rules.row_at.RowAt.{RowAt}
use Rattle.rules.specs.type_rules.Rows.{fields_of_type, methods_of_type}
use Rattle.rules.specs.mark_rules.Places.{type_item, method_item, field_item, prop_item, event_item, impl_item}
use Rattle.rules.specs.mark_rules.Properties.{property_accessors, event_accessors}
use Rattle.rules.specs.mark_rules.Members.{constructors_by, methods_by, fields_by, properties_by, events_by, nested_by, impls_by}

-- properties, each with its accessors
abbrev pub property_items : List AsmRec → RowAt → List Item
property_items recs p = prop_item recs p ∷ map (method_item recs) (property_accessors recs p)

abbrev pub event_items : List AsmRec → RowAt → List Item
event_items recs e = event_item recs e ∷ map (method_item recs) (event_accessors recs e)

-- a type, its methods and its fields
abbrev pub simple_items : List AsmRec → RowAt → List Item
simple_items recs at = type_item recs at ∷ map (method_item recs) (methods_of_type recs at) ++ map (field_item recs) (fields_of_type recs at)

-- ---- the members of a type that kinds name, in three parts

abbrev pub methods_and_fields : List AsmRec → ℕ → RowAt → List Item
methods_and_fields recs kinds t = map (method_item recs) (constructors_by recs kinds t ++ methods_by recs kinds t) ++ map (field_item recs) (fields_by recs kinds t)

abbrev pub mapped_items : List AsmRec → ℕ → RowAt → List Item
mapped_items recs kinds t = flat_map (property_items recs) (properties_by recs kinds t) ++ flat_map (event_items recs) (events_by recs kinds t)

abbrev pub other_items : List AsmRec → ℕ → RowAt → List Item
other_items recs kinds t = nested_by recs kinds t ++ map (impl_item recs) (impls_by recs kinds t)
