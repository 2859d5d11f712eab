-- What a kept type refers to, in three parts.
use Rattle.std.specs.Prelude.{suc, List, ◌++◌}
use Rattle.std.specs.List.{flat_map}
use Rattle.il_base.specs.declared.table.TheConstants.{TYPE_DEF, METHOD_DEF}
use Rattle.il_base.specs.declared.world_model.record.AsmRec.{AsmRec}
use Rattle.il_base.specs.world_model.Tokens.{token_of}
use Rattle.rules.specs.declared.link_rules.row_at.RowAt.{RowAt}
use Rattle.rules.specs.type_rules.Rows.{fields_of_type}
use Rattle.rules.specs.mark_rules.Places.{field_item, prop_item, event_item}
use Rattle.rules.specs.mark_rules.Members.{properties_of_type, events_of_type}
use Rattle.rules.specs.merge_rules.Numbers.{Kept}
use Rattle.rules.specs.merge_rules.Order.{Met, met_extends, met_interfaces, met_field_row, met_method_row, met_constraints, met_property_row, met_event_row, met_impls, those}

abbrev pub fields_met : List AsmRec → Kept → RowAt → List Met
fields_met recs kept at = flat_map (met_field_row recs) (those recs kept (field_item recs) (fields_of_type recs at))

abbrev pub properties_met : List AsmRec → Kept → RowAt → List Met
properties_met recs kept at = flat_map (met_property_row recs) (those recs kept (prop_item recs) (properties_of_type recs at))

abbrev pub events_met : List AsmRec → Kept → RowAt → List Met
events_met recs kept at = flat_map (met_event_row recs) (those recs kept (event_item recs) (events_of_type recs at))

abbrev pub first_met : List AsmRec → Kept → RowAt → List Met
first_met recs kept at = (met_extends recs at ++ met_interfaces recs kept at) ++ fields_met recs kept at

abbrev pub code_met : List AsmRec → RowAt → List RowAt → List Met
code_met recs at methods =
    (flat_map (met_method_row recs) methods ++ met_constraints recs at (token_of TYPE_DEF (suc at.row)))
    ++ flat_map (λ m. met_constraints recs m (token_of METHOD_DEF (suc m.row))) methods

abbrev pub last_met : List AsmRec → Kept → RowAt → List Met
last_met recs kept at = (properties_met recs kept at ++ events_met recs kept at) ++ met_impls recs kept at
