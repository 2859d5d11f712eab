-- What all kept types meet is kept.
use Rattle.std.proofs.Common.{◌≡◌, ◌<◌, ℕ, suc, ◌-◌, List, ◌++◌, length, map, min, drop, true, Option, Some, None, sym, ap, subst, ◌∙◌, arith}
use Rattle.std.specs.Prelude.{slice_get}
use Rattle.std.specs.List.{Contains, flat_map}
use Rattle.std.proofs.lemmas.List.{length-take, length-drop}
use Rattle.il_base.specs.declared.table.TheConstants as table
use Rattle.descriptor_file.specs.declared.root.Root.{Root}
use Rattle.il_base.specs.declared.world_model.types.TypeDefRow.{TypeDefRow}
use Rattle.il_base.specs.declared.world_model.members.MethodDefRow.{MethodDefRow}
use Rattle.il_base.specs.declared.world_model.record.AsmRec.{AsmRec}
use Rattle.il_base.specs.world_model.Tokens.{token_of}
use Rattle.il_base.specs.world_model.Worlds.{types_in}
use Rattle.rules.specs.declared.link_rules.row_at.RowAt.{RowAt}
use Rattle.rules.specs.link_rules.Types.{at_row}
use Rattle.rules.specs.link_rules.Cycles.{listed}
use Rattle.rules.specs.link_rules.Members.{run_of, methods_in}
use Rattle.rules.specs.type_rules.Rows.{rec_at, run_places, methods_of_type, fields_of_type}
use Rattle.base_laws.proofs.lemmas.type_laws.Places.{place_has}
use Rattle.rules.specs.mark_rules.Places.{type_item, method_item, field_item, prop_item, event_item}
use Rattle.rules.specs.mark_rules.Members.{property_places_by, event_places_by, properties_of_type, events_of_type}
use Rattle.rules.specs.mark_rules.Marking.{Marks}
use Rattle.rules.specs.mark_rules.BadItems.{IsFirstFlaw}
use Rattle.rules.specs.merge_rules.Numbers.{Kept, kept_types}
use Rattle.rules.specs.merge_rules.Order.{Met, met_method_row, met_field_row, met_property_row, met_event_row, met_constraints, met_impls, met_extends, met_interfaces, those, met_in_type, met_by_types}
use Rattle.merge_laws.specs.merged_record.Laws.{InputsAreRecords}
use Rattle.merge_laws.proofs.lemmas.merged_record.Lists.{from_filter}
use Rattle.merge_laws.proofs.lemmas.merged_record.Rows.{IsKept, from_kept}
use Rattle.merge_laws.proofs.lemmas.merged_record.Sorting.{from_range}
use Rattle.merge_laws.specs.merged_owners.Laws.{AreMarked, AreKept}
use Rattle.merge_laws.proofs.lemmas.merged_owners.Every.{Every, all_join, all_flat, all_option, all_map}
use Rattle.trim_laws.proofs.lemmas.marked_mets.Uses.{CoreIsBare, Fine}
use Rattle.trim_laws.proofs.lemmas.marked_mets.Bodies.{method_row_fine}
use Rattle.trim_laws.proofs.lemmas.marked_mets.Types.{extends_fine, interfaces_fine, own_constraints, field_row_fine, property_row_fine, event_row_fine, method_constraints}
use Rattle.trim_laws.proofs.lemmas.marked_mets.Impls.{impls_fine}

-- a place of a run is one of its rows
run_below : {A : Type 0} (first end : ℕ) (rows : List A) (k : ℕ) → Contains (run_places first end rows) k → k < length rows
run_below first end rows k c =
    let n : length (run_of first end rows) ≡ min (end - first) (length rows - (first - 1)) = length-take (end - first) (drop (first - 1) rows) ∙ ap (min (end - first)) (length-drop (first - 1) rows) in
    let r = from_range (first - 1) (length (run_of first end rows)) k c in
    let le = r.0 in
    let lt = r.1 in
    omega (arith, n, le, lt)

module _ (recs : List AsmRec) where
  -- a row of an input's table
  abbrev Method : RowAt → Type 0
  Method at = (suc at.asm < length recs) × ((rec : AsmRec) → slice_get recs at.asm ≡ Some rec → at.row < methods_in rec)

  abbrev Input : RowAt → Type 0
  Input at = suc at.asm < length recs

  one_rec : (a : ℕ) (x y : AsmRec) → slice_get recs a ≡ Some x → slice_get recs a ≡ Some y → x ≡ y
  one_rec a x y e f = let g : Some x ≡ Some y = sym e ∙ f in cc

  methods_there : (at : RowAt) → Input at → Every Method (methods_of_type recs at)
  unfolding methods_of_type
  methods_there at input =
      all_option Method (λ (rec : AsmRec). flat_map (λ (t : TypeDefRow). map (at_row at.asm) (run_places t.method_list_first t.method_list_end rec.method_def)) (listed (slice_get rec.type_def at.row))) (rec_at recs at)
      (λ rec there.
      all_option Method (λ (t : TypeDefRow). map (at_row at.asm) (run_places t.method_list_first t.method_list_end rec.method_def)) (slice_get rec.type_def at.row)
      (λ t row.
      all_map Method (at_row at.asm) (run_places t.method_list_first t.method_list_end rec.method_def)
      (λ k c. (input, λ other here. subst (λ (r : AsmRec). k < methods_in r) (one_rec at.asm rec other there here) (run_below t.method_list_first t.method_list_end rec.method_def k c)))))

  fields_there : (at : RowAt) → Input at → Every Input (fields_of_type recs at)
  unfolding fields_of_type
  fields_there at input =
      all_option Input (λ (rec : AsmRec). flat_map (λ (t : TypeDefRow). map (at_row at.asm) (run_places t.field_list_first t.field_list_end rec.field)) (listed (slice_get rec.type_def at.row))) (rec_at recs at)
      (λ rec there.
      all_option Input (λ (t : TypeDefRow). map (at_row at.asm) (run_places t.field_list_first t.field_list_end rec.field)) (slice_get rec.type_def at.row)
      (λ t row. all_map Input (at_row at.asm) (run_places t.field_list_first t.field_list_end rec.field) (λ k c. input)))

  properties_there : (at : RowAt) → Input at → Every Input (properties_of_type recs at)
  unfolding properties_of_type
  properties_there at input =
      all_option Input (λ (rec : AsmRec). map (at_row at.asm) (flat_map (property_places_by rec (token_of table.TYPE_DEF (suc at.row))) rec.property_map)) (rec_at recs at)
      (λ rec there. all_map Input (at_row at.asm) (flat_map (property_places_by rec (token_of table.TYPE_DEF (suc at.row))) rec.property_map) (λ k c. input))

  events_there : (at : RowAt) → Input at → Every Input (events_of_type recs at)
  unfolding events_of_type
  events_there at input =
      all_option Input (λ (rec : AsmRec). map (at_row at.asm) (flat_map (event_places_by rec (token_of table.TYPE_DEF (suc at.row))) rec.event_map)) (rec_at recs at)
      (λ rec there. all_map Input (at_row at.asm) (flat_map (event_places_by rec (token_of table.TYPE_DEF (suc at.row))) rec.event_map) (λ k c. input))

module _ (recs : List AsmRec) (kept : Kept) (bare : CoreIsBare recs) (records : InputsAreRecords recs) (entry : Option RowAt) (roots : List Root) (stays : AreKept recs entry roots kept) (marks : AreMarked recs entry roots kept)
    (good_all : IsFirstFlaw recs entry (Marks recs entry roots) None) where
  abbrev All : List Met → Type 0
  All ms = Every (Fine recs kept) ms

  method_there : (at : RowAt) → Method recs at → (rec : AsmRec) → slice_get recs at.asm ≡ Some rec → (d : MethodDefRow) × (slice_get rec.method_def at.row ≡ Some d)
  method_there at m rec there = place_has rec.method_def at.row (m.1 rec there)

  type_all : (at : RowAt) → Input recs at → kept (type_item recs at) ≡ true → ((rec : AsmRec) → slice_get recs at.asm ≡ Some rec → at.row < types_in rec) → All (met_in_type recs kept at)
  type_all at input keeps below =
      let P = Fine recs kept in
      let methods : List RowAt = those recs kept (method_item recs) (methods_of_type recs at) in
      let fields : List RowAt = those recs kept (field_item recs) (fields_of_type recs at) in
      let properties : List RowAt = those recs kept (prop_item recs) (properties_of_type recs at) in
      let events : List RowAt = those recs kept (event_item recs) (events_of_type recs at) in
      let extends : List Met = met_extends recs at in
      let interfaces : List Met = met_interfaces recs kept at in
      let in_fields : List Met = flat_map (met_field_row recs) fields in
      let in_methods : List Met = flat_map (met_method_row recs) methods in
      let own : List Met = met_constraints recs at (token_of table.TYPE_DEF (suc at.row)) in
      let of_methods : List Met = flat_map (λ m. met_constraints recs m (token_of table.METHOD_DEF (suc m.row))) methods in
      let in_properties : List Met = flat_map (met_property_row recs) properties in
      let in_events : List Met = flat_map (met_event_row recs) events in
      let impls : List Met = met_impls recs kept at in
      let two = all_join P extends interfaces (extends_fine recs kept bare records entry roots stays marks good_all at input keeps below) (interfaces_fine recs kept bare records entry roots stays marks good_all at input keeps below) in
      let three =
      all_join P (extends ++ interfaces) in_fields two
      (all_flat P (met_field_row recs) fields
      (λ f c. let g = from_filter (λ x. kept (field_item recs x)) (fields_of_type recs at) f c in field_row_fine recs kept bare records entry roots stays marks good_all f ((fields_there recs at input).each f g.0) g.1)) in
      let four =
      all_join P (extends ++ interfaces ++ in_fields) in_methods three
      (all_flat P (met_method_row recs) methods
      (λ m c. let g = from_filter (λ x. kept (method_item recs x)) (methods_of_type recs at) m c in method_row_fine recs kept bare records entry roots stays marks good_all m ((methods_there recs at input).each m g.0).0 g.1)) in
      let five = all_join P (extends ++ interfaces ++ in_fields ++ in_methods) own four (own_constraints recs kept bare records entry roots stays marks good_all at input keeps below) in
      let six =
      all_join P (extends ++ interfaces ++ in_fields ++ in_methods ++ own) of_methods five
      (all_flat P (λ m. met_constraints recs m (token_of table.METHOD_DEF (suc m.row))) methods
      (λ m c.
      let g = from_filter (λ x. kept (method_item recs x)) (methods_of_type recs at) m c in
      let h = (methods_there recs at input).each m g.0 in
      method_constraints recs kept bare records entry roots stays marks good_all m h.0 g.1 (method_there m h))) in
      let seven =
      all_join P (extends ++ interfaces ++ in_fields ++ in_methods ++ own ++ of_methods) in_properties six
      (all_flat P (met_property_row recs) properties
      (λ p c. let g = from_filter (λ x. kept (prop_item recs x)) (properties_of_type recs at) p c in property_row_fine recs kept bare records entry roots stays marks good_all p ((properties_there recs at input).each p g.0) g.1)) in
      let eight =
      all_join P (extends ++ interfaces ++ in_fields ++ in_methods ++ own ++ of_methods ++ in_properties) in_events seven
      (all_flat P (met_event_row recs) events
      (λ e c. let g = from_filter (λ x. kept (event_item recs x)) (events_of_type recs at) e c in event_row_fine recs kept bare records entry roots stays marks good_all e ((events_there recs at input).each e g.0) g.1)) in
      all_join P (extends ++ interfaces ++ in_fields ++ in_methods ++ own ++ of_methods ++ in_properties ++ in_events) impls eight (impls_fine recs kept bare records entry roots stays marks good_all at input)

  kept_type : (at : RowAt) → Contains (kept_types recs kept) at → IsKept types_in (type_item recs) recs kept at
  unfolding kept_types
  kept_type at c = from_kept types_in (type_item recs) recs kept at c

  below_is : (at : RowAt) → IsKept types_in (type_item recs) recs kept at → (rec : AsmRec) → slice_get recs at.asm ≡ Some rec → at.row < types_in rec
  below_is at i rec there = subst (λ (r : AsmRec). at.row < types_in r) (one_rec recs at.asm i.rec rec i.input.there there) i.below

  pub by_types : All (met_by_types recs kept)
  unfolding met_by_types
  by_types = all_flat (Fine recs kept) (met_in_type recs kept) (kept_types recs kept) (λ at c. let i = kept_type at c in type_all at i.input.within i.passes (below_is at i))
