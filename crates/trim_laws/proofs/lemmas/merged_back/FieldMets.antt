-- The output meets the signature of each kept field, as its type is kept.
use Rattle.std.proofs.Common.{◌≡◌, ◌<◌, ◌≤◌, ℕ, suc, List, [], ◌++◌, length, map, true, Some, sym, ap, subst, ◌∙◌}
use Rattle.std.specs.Prelude.{slice_get}
use Rattle.std.specs.List.{Contains, flat_map}
use Rattle.std.proofs.lemmas.List.Elements.{Contains-append_left, Contains-append_right}
use Rattle.il_base.specs.declared.sig.Sig.{Sig}
use Rattle.il_base.specs.declared.table.TheConstants as table
use Rattle.il_base.specs.declared.world_model.known.Known.TheVariants.{Good}
use Rattle.il_base.specs.declared.world_model.types.TypeDefRow.{TypeDefRow}
use Rattle.il_base.specs.declared.world_model.members.FieldRow.{FieldRow}
use Rattle.il_base.specs.declared.world_model.record.AsmRec.{AsmRec}
use Rattle.il_base.specs.world_model.Tokens.{token_of}
use Rattle.il_base.specs.world_model.Worlds.{types_in}
use Rattle.rules.specs.declared.link_rules.row_at.RowAt.{RowAt}
use Rattle.rules.specs.link_rules.Types.{at_row}
use Rattle.rules.specs.link_rules.Members.{fields_in}
use Rattle.rules.specs.link_rules.Cycles.{listed}
use Rattle.rules.specs.type_rules.Rows.{rec_at, run_places, fields_of_type, methods_of_type}
use Rattle.rules.specs.mark_rules.Places.{type_item, method_item, field_item, prop_item, event_item}
use Rattle.rules.specs.mark_rules.Members.{properties_of_type, events_of_type}
use Rattle.rules.specs.merge_rules.Numbers.{kept_types, kept_fields}
use Rattle.rules.specs.merge_rules.Keys.{world_sig}
use Rattle.rules.specs.merge_rules.Order.{Met, met_sig, met_good_sig, met_field_row, met_method_row, met_property_row, met_event_row, met_constraints, met_impls, met_extends, met_interfaces, those, met_in_type, met_by_types}
use Rattle.rules.specs.merge_rules.Attributes.{met_by_attributes}
use Rattle.rules.specs.merge_rules.Restricted.{output_of}
use Rattle.rules.specs.merged_world_rules.Merge.{Merge, IsMerge, before, output}
use Rattle.merge_laws.specs.merged_record.Laws.{OwnersAreKept}
use Rattle.merge_laws.proofs.lemmas.merged_record.Lists.{OfInput, first_in, to_flat}
use Rattle.merge_laws.proofs.lemmas.merged_record.Owned.{to_kept}
use Rattle.merge_laws.proofs.lemmas.merged_loads.Flawless.{to_option}
use Rattle.merge_laws.proofs.lemmas.merged_links.Cycles.{to_in, from_in, in_kept}
use Rattle.merge_laws.proofs.lemmas.merged_places.Rows.{place_within, same_some}
use Rattle.merge_laws.proofs.lemmas.merged_rows_move.Members.{fields_at}
use Rattle.trim_laws.proofs.lemmas.merged_back.Rows.{run_by}
use Rattle.trim_laws.proofs.lemmas.merged_back.Members.{mapped_in}

module _ (m : Merge) (is : IsMerge m) (owners : OwnersAreKept (before m) m.kept) (at : RowAt) (rec : AsmRec) (f : FieldRow) (s : Sig) (here : slice_get (before m) at.asm ≡ Some rec) (row : slice_get rec.field at.row ≡ Some f)
    (earlier : suc at.asm < length (before m)) (keeps : m.kept (field_item (before m) at) ≡ true) (good : f.signature ≡ Good s) where
  abbrev recs : List AsmRec
  recs = before m

  input : OfInput recs at.asm rec
  input = record { there = here; within = earlier }

  field_kept : Contains (kept_fields recs m.kept) at
  unfolding kept_fields
  field_kept = to_kept fields_in (field_item recs) recs m.kept at rec input (place_within rec.field at.row f row) keeps

  -- the type whose run has it
  record Owner : Type 0 where
    place : ℕ
    t : TypeDefRow
    is_row : slice_get rec.type_def place ≡ Some t
    begins : t.field_list_first ≤ suc at.row
    ends : suc at.row < t.field_list_end
    kept : m.kept (type_item recs (at_row at.asm place)) ≡ true

  owner : Owner
  owner =
      let o = owners.fields at field_kept in
      let same : o.rec ≡ rec = same_some o.rec rec (sym o.there ∙ here) in
      record { place = o.place; t = o.row; is_row = ap (λ (r : AsmRec). slice_get r.type_def o.place) (sym same) ∙ o.is; begins = o.begins; ends = o.ends; kept = o.kept }

  abbrev own : RowAt
  own = at_row at.asm owner.place

  type_kept : Contains (kept_types recs m.kept) own
  unfolding kept_types
  type_kept = to_kept types_in (type_item recs) recs m.kept own rec input (place_within rec.type_def owner.place owner.t owner.is_row) owner.kept

  among : Contains (fields_of_type recs own) at
  among =
      let o = owner in
      subst (λ (xs : List RowAt). Contains xs at) (sym (fields_at recs own rec here o.t o.is_row))
      (from_in (map (at_row at.asm) (run_places o.t.field_list_first o.t.field_list_end rec.field)) at
      (mapped_in (at_row at.asm) (run_places o.t.field_list_first o.t.field_list_end rec.field) at.row
      (run_by o.t.field_list_first o.t.field_list_end at.row rec.field o.begins o.ends (place_within rec.field at.row f row))))

  in_row : Contains (met_field_row recs at) (met_sig (world_sig recs at.asm rec s))
  in_row =
      to_option (λ (r : AsmRec). flat_map (λ (g : FieldRow). met_good_sig recs at.asm r g.signature) (listed (slice_get r.field at.row))) (rec_at recs at) rec (met_sig (world_sig recs at.asm rec s)) here
      (to_option (λ (g : FieldRow). met_good_sig recs at.asm rec g.signature) (slice_get rec.field at.row) f (met_sig (world_sig recs at.asm rec s)) row
      (subst (λ k. Contains (met_good_sig recs at.asm rec k) (met_sig (world_sig recs at.asm rec s))) (sym good) (first_in (met_sig (world_sig recs at.asm rec s)) [])))

  in_type : (x : Met) → Contains (flat_map (met_field_row recs) (those recs m.kept (field_item recs) (fields_of_type recs own))) x → Contains (met_in_type recs m.kept own) x
  in_type x c =
      let methods : List RowAt = those recs m.kept (method_item recs) (methods_of_type recs own) in
      let first : List Met = met_extends recs own ++ met_interfaces recs m.kept own in
      let fields : List Met = flat_map (met_field_row recs) (those recs m.kept (field_item recs) (fields_of_type recs own)) in
      let here : List Met = flat_map (met_method_row recs) methods in
      let bounds : List Met = met_constraints recs own (token_of table.TYPE_DEF (suc own.row)) in
      let others : List Met = flat_map (λ y. met_constraints recs y (token_of table.METHOD_DEF (suc y.row))) methods in
      let props : List Met = flat_map (met_property_row recs) (those recs m.kept (prop_item recs) (properties_of_type recs own)) in
      let events : List Met = flat_map (met_event_row recs) (those recs m.kept (event_item recs) (events_of_type recs own)) in
      Contains-append_left (first ++ fields ++ here ++ bounds ++ others ++ props ++ events) (met_impls recs m.kept own) x
      (Contains-append_left (first ++ fields ++ here ++ bounds ++ others ++ props) events x
      (Contains-append_left (first ++ fields ++ here ++ bounds ++ others) props x
      (Contains-append_left (first ++ fields ++ here ++ bounds) others x
      (Contains-append_left (first ++ fields ++ here) bounds x (Contains-append_left (first ++ fields) here x (Contains-append_right first fields x c))))))

  pub sig_met : Contains (output m).mets (met_sig (world_sig recs at.asm rec s))
  unfolding output_of met_by_types
  sig_met =
      let x : Met = met_sig (world_sig recs at.asm rec s) in
      Contains-append_left (flat_map (met_in_type recs m.kept) (kept_types recs m.kept)) (met_by_attributes recs m.kept) x
      (to_flat (met_in_type recs m.kept) (kept_types recs m.kept) x
      (record {
        item = own;
        there = type_kept;
        inside =
            in_type x
            (to_flat (met_field_row recs) (those recs m.kept (field_item recs) (fields_of_type recs own)) x
            (record { item = at; there = from_in (those recs m.kept (field_item recs) (fields_of_type recs own)) at (in_kept (λ y. m.kept (field_item recs y)) (fields_of_type recs own) at keeps (to_in (fields_of_type recs own) at among)); inside = in_row }));
      }))
