-- What the row of a kept item meets, the output refers to: kept members are in runs of kept types.
use Rattle.std.proofs.Common.{◌≡◌, ◌<◌, ◌≤◌, ℕ, suc, ◌+◌, List, [], ◌∷◌, ◌++◌, length, map, Bool, true, false, Option, Some, None, refl, sym, ap, subst, ◌∙◌, arith}
use Rattle.std.specs.Prelude.{slice_get, ◌==◌, ◌&&◌, if◌then◌else◌}
use Rattle.std.specs.List.{Contains, flat_map, filter}
use Rattle.std.specs.Option.{is_some, option_and_then, option_map}
use Rattle.std.proofs.lemmas.Bool.{eq-eqb, and_from}
use Rattle.std.proofs.lemmas.List.Elements.{Contains-append_left, Contains-append_right}
use Rattle.il_base.specs.declared.table.TheConstants as table
use Rattle.il_base.specs.declared.world_model.types.TypeDefRow.{TypeDefRow}
use Rattle.il_base.specs.declared.world_model.types.InterfaceImplRow.{InterfaceImplRow}
use Rattle.il_base.specs.declared.world_model.members.PropertyMapRow.{PropertyMapRow}
use Rattle.il_base.specs.declared.world_model.members.EventMapRow.{EventMapRow}
use Rattle.il_base.specs.declared.world_model.record.AsmRec.{AsmRec}
use Rattle.il_base.specs.world_model.Tokens.{token_of, index_in}
use Rattle.il_base.specs.world_model.Records.{IsRecord}
use Rattle.il_base.specs.world_model.Worlds.{types_in}
use Rattle.rules.specs.declared.link_rules.row_at.RowAt.{RowAt}
use Rattle.rules.specs.link_rules.Types.{at_row}
use Rattle.rules.specs.link_rules.Cycles.{listed, same_row}
use Rattle.rules.specs.link_rules.Members.{methods_in, fields_in}
use Rattle.rules.specs.type_rules.Rows.{rec_at, each_row, run_places, methods_of_type, fields_of_type}
use Rattle.base_laws.proofs.lemmas.type_laws.Places.{place_within}
use Rattle.base_laws.proofs.lemmas.known_laws.Lists.{to_map, to_option, to_flat, to_if, to_each, and_then_some, map_some}
use Rattle.rules.specs.mark_rules.Places.{type_item, method_item, field_item, prop_item, event_item, impl_item, props_in, events_in}
use Rattle.rules.specs.mark_rules.Members.{property_places_by, properties_of_type, event_places_by, events_of_type}
use Rattle.rules.specs.merge_rules.Numbers.{Kept, kept_types, kept_methods, kept_fields, kept_properties, kept_events}
use Rattle.rules.specs.merge_rules.Order.{Met, met_token, met_method_row, met_field_row, met_property_row, met_event_row, met_constraints, met_impls, met_extends, met_interface, met_interfaces, those, met_in_type, met_by_types}
use Rattle.rules.specs.merge_rules.Rows.{class_token}
use Rattle.rules.specs.merge_rules.Attributes.{met_by_attributes}
use Rattle.rules.specs.merge_rules.Restricted.{output_of}
use Rattle.merge_laws.specs.merged_record.Laws.{InputsAreRecords, OwnersAreKept}
use Rattle.merge_laws.proofs.lemmas.merged_record.Lists.{OfInput, place_in}
use Rattle.merge_laws.proofs.lemmas.merged_record.Owned.{to_kept}
use Rattle.merge_laws.proofs.lemmas.merged_tokens.Once.{to_filter}
use Rattle.merge_laws.proofs.lemmas.merged_tokens.Constraints.{placed_in}
use Rattle.merge_laws.proofs.lemmas.merged_tokens.Events.{in_places}

module _ (recs : List AsmRec) (kept : Kept) where
  -- ---- what is met by a kept type

  pub by_type : (at : RowAt) (x : Met) → Contains (kept_types recs kept) at → Contains (met_in_type recs kept at) x → Contains (output_of recs kept).mets x
  unfolding output_of met_by_types
  by_type at x listed_at c =
      Contains-append_left (flat_map (met_in_type recs kept) (kept_types recs kept)) (met_by_attributes recs kept) x
      (to_flat (met_in_type recs kept) (kept_types recs kept) x (record { item = at; there = listed_at; inside = c }))

  module _ (at : RowAt) (x : Met) where
    abbrev methods : List RowAt
    methods = those recs kept (method_item recs) (methods_of_type recs at)

    abbrev one : List Met
    one = met_extends recs at ++ met_interfaces recs kept at

    abbrev two : List Met
    two = one ++ flat_map (met_field_row recs) (those recs kept (field_item recs) (fields_of_type recs at))

    abbrev three : List Met
    three = two ++ flat_map (met_method_row recs) methods

    abbrev four : List Met
    four = three ++ met_constraints recs at (token_of table.TYPE_DEF (suc at.row))

    abbrev five : List Met
    five = four ++ flat_map (λ m. met_constraints recs m (token_of table.METHOD_DEF (suc m.row))) methods

    abbrev six : List Met
    six = five ++ flat_map (met_property_row recs) (those recs kept (prop_item recs) (properties_of_type recs at))

    abbrev seven : List Met
    seven = six ++ flat_map (met_event_row recs) (those recs kept (event_item recs) (events_of_type recs at))

    from_seven : Contains seven x → Contains (met_in_type recs kept at) x
    from_seven c = Contains-append_left seven (met_impls recs kept at) x c

    from_six : Contains six x → Contains (met_in_type recs kept at) x
    from_six c = from_seven (Contains-append_left six (flat_map (met_event_row recs) (those recs kept (event_item recs) (events_of_type recs at))) x c)

    from_five : Contains five x → Contains (met_in_type recs kept at) x
    from_five c = from_six (Contains-append_left five (flat_map (met_property_row recs) (those recs kept (prop_item recs) (properties_of_type recs at))) x c)

    from_four : Contains four x → Contains (met_in_type recs kept at) x
    from_four c = from_five (Contains-append_left four (flat_map (λ m. met_constraints recs m (token_of table.METHOD_DEF (suc m.row))) methods) x c)

    from_three : Contains three x → Contains (met_in_type recs kept at) x
    from_three c = from_four (Contains-append_left three (met_constraints recs at (token_of table.TYPE_DEF (suc at.row))) x c)

    from_two : Contains two x → Contains (met_in_type recs kept at) x
    from_two c = from_three (Contains-append_left two (flat_map (met_method_row recs) methods) x c)

    from_one : Contains one x → Contains (met_in_type recs kept at) x
    from_one c = from_two (Contains-append_left one (flat_map (met_field_row recs) (those recs kept (field_item recs) (fields_of_type recs at))) x c)

    pub extends_in : Contains (met_extends recs at) x → Contains (met_in_type recs kept at) x
    extends_in c = from_one (Contains-append_left (met_extends recs at) (met_interfaces recs kept at) x c)

    interfaces_in : Contains (met_interfaces recs kept at) x → Contains (met_in_type recs kept at) x
    interfaces_in c = from_one (Contains-append_right (met_extends recs at) (met_interfaces recs kept at) x c)

    fields_part : Contains (flat_map (met_field_row recs) (those recs kept (field_item recs) (fields_of_type recs at))) x → Contains (met_in_type recs kept at) x
    fields_part c = from_two (Contains-append_right one (flat_map (met_field_row recs) (those recs kept (field_item recs) (fields_of_type recs at))) x c)

    methods_part : Contains (flat_map (met_method_row recs) methods) x → Contains (met_in_type recs kept at) x
    methods_part c = from_three (Contains-append_right two (flat_map (met_method_row recs) methods) x c)

    pub own_constraints : Contains (met_constraints recs at (token_of table.TYPE_DEF (suc at.row))) x → Contains (met_in_type recs kept at) x
    own_constraints c = from_four (Contains-append_right three (met_constraints recs at (token_of table.TYPE_DEF (suc at.row))) x c)

    method_constraints : Contains (flat_map (λ m. met_constraints recs m (token_of table.METHOD_DEF (suc m.row))) methods) x → Contains (met_in_type recs kept at) x
    method_constraints c = from_five (Contains-append_right four (flat_map (λ m. met_constraints recs m (token_of table.METHOD_DEF (suc m.row))) methods) x c)

    properties_part : Contains (flat_map (met_property_row recs) (those recs kept (prop_item recs) (properties_of_type recs at))) x → Contains (met_in_type recs kept at) x
    properties_part c = from_six (Contains-append_right five (flat_map (met_property_row recs) (those recs kept (prop_item recs) (properties_of_type recs at))) x c)

    events_part : Contains (flat_map (met_event_row recs) (those recs kept (event_item recs) (events_of_type recs at))) x → Contains (met_in_type recs kept at) x
    events_part c = from_seven (Contains-append_right six (flat_map (met_event_row recs) (those recs kept (event_item recs) (events_of_type recs at))) x c)

  -- ---- kept rows

  pub type_listed : (at : RowAt) (rec : AsmRec) → OfInput recs at.asm rec → at.row < types_in rec → kept (type_item recs at) ≡ true → Contains (kept_types recs kept) at
  unfolding kept_types
  type_listed at rec input lt h = to_kept types_in (type_item recs) recs kept at rec input lt h

  method_listed : (at : RowAt) (rec : AsmRec) → OfInput recs at.asm rec → at.row < methods_in rec → kept (method_item recs at) ≡ true → Contains (kept_methods recs kept) at
  unfolding kept_methods
  method_listed at rec input lt h = to_kept methods_in (method_item recs) recs kept at rec input lt h

  field_listed : (at : RowAt) (rec : AsmRec) → OfInput recs at.asm rec → at.row < fields_in rec → kept (field_item recs at) ≡ true → Contains (kept_fields recs kept) at
  unfolding kept_fields
  field_listed at rec input lt h = to_kept fields_in (field_item recs) recs kept at rec input lt h

  property_listed : (at : RowAt) (rec : AsmRec) → OfInput recs at.asm rec → at.row < props_in rec → kept (prop_item recs at) ≡ true → Contains (kept_properties recs kept) at
  unfolding kept_properties
  property_listed at rec input lt h = to_kept props_in (prop_item recs) recs kept at rec input lt h

  event_listed : (at : RowAt) (rec : AsmRec) → OfInput recs at.asm rec → at.row < events_in rec → kept (event_item recs at) ≡ true → Contains (kept_events recs kept) at
  unfolding kept_events
  event_listed at rec input lt h = to_kept events_in (event_item recs) recs kept at rec input lt h

  -- a kept type by its token
  class_there : (a token : ℕ) (o : Option ℕ) → class_token recs kept a token ≡ o → is_some o ≡ true → (k : ℕ) × (token ≡ token_of table.TYPE_DEF (suc k)) × Contains (kept_types recs kept) (at_row a k)
  class_there a token None e h = absurd (cc)
  class_there a token (Some w) e h = placed_in (kept_types recs kept) table.TYPE_DEF a token w e

  module _ (records : InputsAreRecords recs) (owners : OwnersAreKept recs kept) (at : RowAt) (rec : AsmRec) (input : OfInput recs at.asm rec) where
    abbrev whole : IsRecord rec
    whole = records at.asm rec input.within input.there

    same_rec : (r : AsmRec) → slice_get recs at.asm ≡ Some r → r ≡ rec
    same_rec r there = let g = input.there in cc

    -- ---- methods

    module _ (lt : at.row < methods_in rec) (keeps : kept (method_item recs at) ≡ true) where
      owner_of_method : (t : RowAt) × Contains (kept_types recs kept) t × Contains (methods_of_type recs t) at
      unfolding methods_of_type
      owner_of_method =
          let w = owners.methods at (method_listed at rec input lt keeps) in
          let row : TypeDefRow = w.row in
          let is : slice_get rec.type_def w.place ≡ Some row = subst (λ (r : AsmRec). slice_get r.type_def w.place ≡ Some row) (same_rec w.rec w.there) w.is in
          let t : RowAt = at_row at.asm w.place in (
            t,
            type_listed t rec input (place_within rec.type_def w.place row is) w.kept,
            to_option (λ (r : AsmRec). flat_map (λ (y : TypeDefRow). map (at_row at.asm) (run_places y.method_list_first y.method_list_end r.method_def)) (listed (slice_get r.type_def w.place))) (rec_at recs t) rec at input.there
                (to_option (λ (y : TypeDefRow). map (at_row at.asm) (run_places y.method_list_first y.method_list_end rec.method_def)) (slice_get rec.type_def w.place) row at is
                (to_map (at_row at.asm) (run_places row.method_list_first row.method_list_end rec.method_def) at.row
                (in_places row.method_list_first row.method_list_end rec.method_def at.row w.begins (whole.runs.methods.begins w.place row is) w.ends lt))),
          )

      pub method_row_met : (x : Met) → Contains (met_method_row recs at) x → Contains (output_of recs kept).mets x
      method_row_met x c =
          let o = owner_of_method in
          by_type o.0 x o.1
          (methods_part o.0 x
          (to_flat (met_method_row recs) (those recs kept (method_item recs) (methods_of_type recs o.0)) x
          (record { item = at; there = to_filter (λ y. kept (method_item recs y)) (methods_of_type recs o.0) at o.2 keeps; inside = c })))

      pub constraints_met : (x : Met) → Contains (met_constraints recs at (token_of table.METHOD_DEF (suc at.row))) x → Contains (output_of recs kept).mets x
      constraints_met x c =
          let o = owner_of_method in
          by_type o.0 x o.1
          (method_constraints o.0 x
          (to_flat (λ m. met_constraints recs m (token_of table.METHOD_DEF (suc m.row))) (those recs kept (method_item recs) (methods_of_type recs o.0)) x
          (record { item = at; there = to_filter (λ y. kept (method_item recs y)) (methods_of_type recs o.0) at o.2 keeps; inside = c })))

    -- ---- fields

    module _ (lt : at.row < fields_in rec) (keeps : kept (field_item recs at) ≡ true) where
      owner_of_field : (t : RowAt) × Contains (kept_types recs kept) t × Contains (fields_of_type recs t) at
      unfolding fields_of_type
      owner_of_field =
          let w = owners.fields at (field_listed at rec input lt keeps) in
          let row : TypeDefRow = w.row in
          let is : slice_get rec.type_def w.place ≡ Some row = subst (λ (r : AsmRec). slice_get r.type_def w.place ≡ Some row) (same_rec w.rec w.there) w.is in
          let t : RowAt = at_row at.asm w.place in (
            t,
            type_listed t rec input (place_within rec.type_def w.place row is) w.kept,
            to_option (λ (r : AsmRec). flat_map (λ (y : TypeDefRow). map (at_row at.asm) (run_places y.field_list_first y.field_list_end r.field)) (listed (slice_get r.type_def w.place))) (rec_at recs t) rec at input.there
                (to_option (λ (y : TypeDefRow). map (at_row at.asm) (run_places y.field_list_first y.field_list_end rec.field)) (slice_get rec.type_def w.place) row at is
                (to_map (at_row at.asm) (run_places row.field_list_first row.field_list_end rec.field) at.row
                (in_places row.field_list_first row.field_list_end rec.field at.row w.begins (whole.runs.fields.begins w.place row is) w.ends lt))),
          )

      pub field_row_met : (x : Met) → Contains (met_field_row recs at) x → Contains (output_of recs kept).mets x
      field_row_met x c =
          let o = owner_of_field in
          by_type o.0 x o.1
          (fields_part o.0 x
          (to_flat (met_field_row recs) (those recs kept (field_item recs) (fields_of_type recs o.0)) x
          (record { item = at; there = to_filter (λ y. kept (field_item recs y)) (fields_of_type recs o.0) at o.2 keeps; inside = c })))

    -- ---- properties and events

    module _ (lt : at.row < props_in rec) (keeps : kept (prop_item recs at) ≡ true) where
      owner_of_property : (t : RowAt) × Contains (kept_types recs kept) t × Contains (properties_of_type recs t) at
      unfolding properties_of_type
      owner_of_property =
          let w = owners.properties at (property_listed at rec input lt keeps) in
          let row : PropertyMapRow = w.row in
          let is : slice_get rec.property_map w.place ≡ Some row = subst (λ (r : AsmRec). slice_get r.property_map w.place ≡ Some row) (same_rec w.rec w.there) w.is in
          let k = class_there at.asm row.parent (class_token recs kept at.asm row.parent) refl w.kept in
          let token : ℕ = token_of table.TYPE_DEF (suc k.0) in
          let t : RowAt = at_row at.asm k.0 in (
            t,
            k.2,
            to_option (λ (r : AsmRec). map (at_row at.asm) (flat_map (property_places_by r token) r.property_map)) (rec_at recs t) rec at input.there
                (to_map (at_row at.asm) (flat_map (property_places_by rec token) rec.property_map) at.row
                (to_flat (property_places_by rec token) rec.property_map at.row
                (record {
                  item = row;
                  there = place_in rec.property_map w.place row is;
                  inside =
                      to_if (row.parent == token) (run_places row.property_list_first row.property_list_end rec.property) at.row (eq-eqb row.parent token k.1)
                      (in_places row.property_list_first row.property_list_end rec.property at.row w.begins (whole.runs.properties.begins w.place row is) w.ends lt);
                }))),
          )

      pub property_row_met : (x : Met) → Contains (met_property_row recs at) x → Contains (output_of recs kept).mets x
      property_row_met x c =
          let o = owner_of_property in
          by_type o.0 x o.1
          (properties_part o.0 x
          (to_flat (met_property_row recs) (those recs kept (prop_item recs) (properties_of_type recs o.0)) x
          (record { item = at; there = to_filter (λ y. kept (prop_item recs y)) (properties_of_type recs o.0) at o.2 keeps; inside = c })))

    module _ (lt : at.row < events_in rec) (keeps : kept (event_item recs at) ≡ true) where
      owner_of_event : (t : RowAt) × Contains (kept_types recs kept) t × Contains (events_of_type recs t) at
      unfolding events_of_type
      owner_of_event =
          let w = owners.events at (event_listed at rec input lt keeps) in
          let row : EventMapRow = w.row in
          let is : slice_get rec.event_map w.place ≡ Some row = subst (λ (r : AsmRec). slice_get r.event_map w.place ≡ Some row) (same_rec w.rec w.there) w.is in
          let k = class_there at.asm row.parent (class_token recs kept at.asm row.parent) refl w.kept in
          let token : ℕ = token_of table.TYPE_DEF (suc k.0) in
          let t : RowAt = at_row at.asm k.0 in (
            t,
            k.2,
            to_option (λ (r : AsmRec). map (at_row at.asm) (flat_map (event_places_by r token) r.event_map)) (rec_at recs t) rec at input.there
                (to_map (at_row at.asm) (flat_map (event_places_by rec token) rec.event_map) at.row
                (to_flat (event_places_by rec token) rec.event_map at.row
                (record {
                  item = row;
                  there = place_in rec.event_map w.place row is;
                  inside =
                      to_if (row.parent == token) (run_places row.event_list_first row.event_list_end rec.event) at.row (eq-eqb row.parent token k.1)
                      (in_places row.event_list_first row.event_list_end rec.event at.row w.begins (whole.runs.events.begins w.place row is) w.ends lt);
                }))),
          )

      pub event_row_met : (x : Met) → Contains (met_event_row recs at) x → Contains (output_of recs kept).mets x
      event_row_met x c =
          let o = owner_of_event in
          by_type o.0 x o.1
          (events_part o.0 x
          (to_flat (met_event_row recs) (those recs kept (event_item recs) (events_of_type recs o.0)) x
          (record { item = at; there = to_filter (λ y. kept (event_item recs y)) (events_of_type recs o.0) at o.2 keeps; inside = c })))

    -- ---- interface rows of kept types

    pub interface_met : (row : InterfaceImplRow) (k : ℕ) → slice_get rec.interface_impl at.row ≡ Some row → kept (impl_item recs at) ≡ true → row.class ≡ token_of table.TYPE_DEF (suc k) → Contains (kept_types recs kept) (at_row at.asm k)
        → (x : Met) → Contains (met_token recs at.asm rec row.interface) x → Contains (output_of recs kept).mets x
    interface_met row k is keeps own class x c =
        let t : RowAt = at_row at.asm k in
        let z : 0 + at.row ≡ at.row = omega arith in
        let here : Contains (met_interface recs kept t rec at.row row) x =
        to_if (row.class == token_of table.TYPE_DEF (suc k) && kept (impl_item recs (at_row at.asm at.row))) (met_token recs at.asm rec row.interface) x
        (and_from (row.class == token_of table.TYPE_DEF (suc k)) (kept (impl_item recs (at_row at.asm at.row))) (eq-eqb row.class (token_of table.TYPE_DEF (suc k)) own) keeps) c in
        by_type t x class
        (interfaces_in t x
        (to_option (λ (r : AsmRec). each_row (met_interface recs kept t r) r.interface_impl) (rec_at recs t) rec x input.there
        (to_each (met_interface recs kept t rec) 0 rec.interface_impl x
        (record { place = at.row; item = row; there = is; inside = subst (λ (j : ℕ). Contains (met_interface recs kept t rec j row) x) (sym z) here }))))
