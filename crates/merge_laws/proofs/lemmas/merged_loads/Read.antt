-- The parts of kept rows have a meaning in what is left, where no marked item has a flaw.
use Rattle.std.proofs.Common.{◌≡◌, ◌<◌, ℕ, suc, List, length, Bool, true, Option, Some, None, sym, ap, subst, ◌∙◌, arith}
use Rattle.std.specs.Prelude.{slice_get}
use Rattle.std.specs.List.{Contains}
use Rattle.std.specs.Option.{option_map}
use Rattle.il_base.specs.declared.ids.Item.{Item}
use Rattle.il_base.specs.declared.table.TheConstants as table
use Rattle.il_base.specs.declared.body.Body.{Body}
use Rattle.descriptor_file.specs.declared.root.Root.{Root}
use Rattle.il_base.specs.declared.world_model.known.Known.{Known}
use Rattle.il_base.specs.declared.world_model.known.Known.TheVariants.{Good, Bad}
use Rattle.il_base.specs.declared.world_model.members.FieldRow.{FieldRow}
use Rattle.il_base.specs.declared.world_model.members.MethodDefRow.{MethodDefRow}
use Rattle.il_base.specs.declared.world_model.members.PropertyRow.{PropertyRow}
use Rattle.il_base.specs.declared.world_model.extras.FieldRvaRow.{FieldRvaRow}
use Rattle.il_base.specs.declared.world_model.record.AsmRec.{AsmRec}
use Rattle.il_base.specs.world_model.Tokens.{token_of}
use Rattle.il_base.specs.world_model.Records.{Each}
use Rattle.il_base.specs.world_model.Worlds.{known_map}
use Rattle.file_laws.specs.layout_laws.OfFile.{IsKnown, HasReading}
use Rattle.rules.specs.declared.link_rules.row_at.RowAt.{RowAt}
use Rattle.rules.specs.link_rules.Types.{at_row}
use Rattle.rules.specs.link_rules.Members.{methods_in, fields_in}
use Rattle.rules.specs.link_rules.Cycles.{listed, same_row}
use Rattle.rules.specs.mark_rules.Marking.{Marks}
use Rattle.rules.specs.mark_rules.BadItems.{of_item, IsFirstFlaw, flaws_of}
use Rattle.rules.specs.mark_rules.Places.{row_of, method_item, field_item, prop_item, props_in}
use Rattle.rules.specs.merge_rules.Numbers.{kept_methods, kept_fields, kept_properties, new_row}
use Rattle.rules.specs.merge_rules.Refs.{Output}
use Rattle.rules.specs.merge_rules.Rows.{all_rows, token_32, kept_row_token}
use Rattle.rules.specs.merge_rules.Moved.{moved_field_row, moved_method_row, moved_property_row}
use Rattle.rules.specs.merge_rules.Restricted.{placed_methods, moved_methods, new_field_rva, restricted_by, output_of, restricted}
use Rattle.merge_laws.specs.merged_record.Laws.{InputsAreRecords}
use Rattle.merge_laws.proofs.lemmas.merged_record.Lists.{place_in, from_map, from_listed, from_all, map_some}
use Rattle.merge_laws.proofs.lemmas.merged_record.Sorting.{sorted_in}
use Rattle.merge_laws.proofs.lemmas.merged_record.Tokens.{position_is, row_is, index_row}
use Rattle.merge_laws.proofs.lemmas.merged_record.Rows.{from_places, IsKept, from_kept}
use Rattle.merge_laws.proofs.lemmas.merged_record.Sizes.{left}
use Rattle.merge_laws.specs.merged_loads.Marked.{AreMarked, AreRead, PartsAreRead}
use Rattle.merge_laws.proofs.lemmas.merged_loads.Addresses.{is_placed}
use Rattle.merge_laws.proofs.lemmas.merged_loads.FieldData.{row_named}
use Rattle.merge_laws.proofs.lemmas.merged_loads.DataStand.{of_bytes, field_row_moved}
use Rattle.merge_laws.proofs.lemmas.merged_loads.Flawless.{IsEmpty, own_home, not_core, field_known, data_known, method_known, body_has_reading, property_known}

-- ---- what is moved keeps its meaning

known_moved : {A B : Type 0} (f : A → B) (s : Known A) → IsKnown s → IsKnown (known_map f s)
known_moved f (Good s) h = tt
known_moved f (Bad why) h = absurd h

body_moved : (f : Body → Body) (b : Option (Known Body)) → HasReading b → HasReading (option_map (known_map f) b)
body_moved f None h = tt
body_moved f (Some b) h = known_moved f b h

module _ (o : Output) (entry : Option RowAt) (roots : List Root) (records : InputsAreRecords o.recs) (marks : AreMarked o.recs entry roots o.kept) (good : IsFirstFlaw o.recs entry (Marks o.recs entry roots) None) where
  pub free : (i : Item) (at : RowAt) → o.kept i ≡ true → row_of o.recs i ≡ Some at → suc at.asm < length o.recs → IsEmpty (flaws_of o.recs i)
  free i at kept home lt f c = good f (of_item i f (marks i kept) (not_core o.recs i at home lt) c)

  -- ---- kept rows

  pub field_at : (at : RowAt) (rec : AsmRec) → slice_get o.recs at.asm ≡ Some rec → at.row < length rec.field → row_of o.recs (field_item o.recs at) ≡ Some at
  unfolding row_of
  field_at at rec there lt = own_home fields_in o.recs at rec there lt

  method_at : (at : RowAt) (rec : AsmRec) → slice_get o.recs at.asm ≡ Some rec → at.row < length rec.method_def → row_of o.recs (method_item o.recs at) ≡ Some at
  unfolding row_of
  method_at at rec there lt = own_home methods_in o.recs at rec there lt

  property_at : (at : RowAt) (rec : AsmRec) → slice_get o.recs at.asm ≡ Some rec → at.row < length rec.property → row_of o.recs (prop_item o.recs at) ≡ Some at
  unfolding row_of
  property_at at rec there lt = own_home props_in o.recs at rec there lt

  one_rec : (x y : AsmRec) (k : Option AsmRec) → k ≡ Some x → k ≡ Some y → x ≡ y
  one_rec x y k e f = let g : Some x ≡ Some y = sym e ∙ f in cc

  field_is : (at : RowAt) → Contains (kept_fields o.recs o.kept) at → IsKept fields_in (field_item o.recs) o.recs o.kept at
  unfolding kept_fields
  field_is at c = from_kept fields_in (field_item o.recs) o.recs o.kept at c

  method_is : (at : RowAt) → Contains (kept_methods o.recs o.kept) at → IsKept methods_in (method_item o.recs) o.recs o.kept at
  unfolding kept_methods
  method_is at c = from_kept methods_in (method_item o.recs) o.recs o.kept at c

  property_is : (at : RowAt) → Contains (kept_properties o.recs o.kept) at → IsKept props_in (prop_item o.recs) o.recs o.kept at
  unfolding kept_properties
  property_is at c = from_kept props_in (prop_item o.recs) o.recs o.kept at c

  module _ (internal : Bool) (primary : AsmRec) where
    abbrev out : AsmRec
    out = left internal o primary

    fields_read : Each (λ (row : FieldRow). IsKnown row.signature) out.field
    fields_read j row e =
        let p = from_places o.recs (λ rec. rec.field) (moved_field_row o) (kept_fields o.recs o.kept) row (place_in out.field j row e) in
        let k = field_is p.at p.listed in
        let home = field_at p.at k.rec k.input.there k.below in
        let empty = free (field_item o.recs p.at) p.at k.passes home k.input.within in
        subst (λ (r : FieldRow). IsKnown r.signature) p.made (known_moved _ p.row.signature (field_known o.recs p.at p.rec p.there _ home empty p.row p.is))

    properties_read : Each (λ (row : PropertyRow). IsKnown row.signature) out.property
    properties_read j row e =
        let p = from_places o.recs (λ rec. rec.property) (moved_property_row o) (kept_properties o.recs o.kept) row (place_in out.property j row e) in
        let k = property_is p.at p.listed in
        let home = property_at p.at k.rec k.input.there k.below in
        let empty = free (prop_item o.recs p.at) p.at k.passes home k.input.within in
        subst (λ (r : PropertyRow). IsKnown r.signature) p.made (known_moved _ p.row.signature (property_known o.recs p.at p.rec p.there _ home empty p.row p.is))

    methods_read : Each (λ (row : MethodDefRow). IsKnown row.signature) out.method_def
    methods_read j row e =
        let q = is_placed (moved_methods o) row (place_in out.method_def j row e) in
        let p = from_places o.recs (λ rec. rec.method_def) (moved_method_row o) (kept_methods o.recs o.kept) q.old q.there in
        let k = method_is p.at p.listed in
        let home = method_at p.at k.rec k.input.there k.below in
        let empty = free (method_item o.recs p.at) p.at k.passes home k.input.within in
        let old : IsKnown q.old.signature = subst (λ (r : MethodDefRow). IsKnown r.signature) p.made (known_moved _ p.row.signature (method_known o.recs p.at p.rec p.there _ home empty p.row p.is)) in
        subst (λ (r : MethodDefRow). IsKnown r.signature) q.is old

    bodies_read : Each (λ (row : MethodDefRow). HasReading row.body) out.method_def
    bodies_read j row e =
        let q = is_placed (moved_methods o) row (place_in out.method_def j row e) in
        let p = from_places o.recs (λ rec. rec.method_def) (moved_method_row o) (kept_methods o.recs o.kept) q.old q.there in
        let k = method_is p.at p.listed in
        let home = method_at p.at k.rec k.input.there k.below in
        let empty = free (method_item o.recs p.at) p.at k.passes home k.input.within in
        let old : HasReading q.old.body = subst (λ (r : MethodDefRow). HasReading r.body) p.made (body_moved _ p.row.body (body_has_reading o.recs p.at p.rec p.there _ home empty p.row p.is)) in
        subst (λ (r : MethodDefRow). HasReading r.body) q.is old

    data_read : Each (λ (row : FieldRvaRow). IsKnown row.bytes) out.field_rva
    data_read j row e =
        let b = of_bytes _ _ row (place_in out.field_rva j row e) in
        let r = from_all (λ rec. rec.field_rva) (new_field_rva o) o.recs b.old (sorted_in (λ (x : FieldRvaRow). x.field) (all_rows (λ rec. rec.field_rva) (new_field_rva o) o.recs) b.old b.there) in
        let m = from_map (λ field. record r.row { field = field }) (listed (kept_row_token o.recs o.kept r.asm r.row.field)) b.old r.inside in
        let moved : kept_row_token o.recs o.kept r.asm r.row.field ≡ Some m.0 = from_listed (kept_row_token o.recs o.kept r.asm r.row.field) m.0 m.1 in
        let named = row_named r.rec table.FIELD r.row.field ((records r.asm r.rec r.input.within r.input.there).tokens.field_rvas r.place r.row r.there) in
        let at : RowAt = at_row r.asm named.0 in
        let new = map_some (token_32 table.FIELD) (new_row (kept_fields o.recs o.kept) at) m.0 (sym (field_row_moved o r.asm named.0 r.row.field named.1) ∙ moved) in
        let place = position_is (same_row at) (kept_fields o.recs o.kept) new.0 new.1 in
        let listed_at : Contains (kept_fields o.recs o.kept) at = subst (λ (x : RowAt). Contains (kept_fields o.recs o.kept) x) (sym (row_is at place.item place.passes)) (place_in (kept_fields o.recs o.kept) new.0 place.item place.there) in
        let k = field_is at listed_at in
        let home = field_at at k.rec k.input.there k.below in
        let empty = free (field_item o.recs at) at k.passes home k.input.within in
        let index = index_row table.FIELD r.row.field named.0 named.1 in
        let t = index.0 in
        let n = index.1 in
        let token : r.row.field ≡ token_of table.FIELD (suc named.0) = omega arith in
        let known : IsKnown r.row.bytes = data_known o.recs at r.rec r.input.there _ home empty r.place r.row r.there token in
        subst (λ (x : Known (List ℕ)). IsKnown x) (ap (λ (x : FieldRvaRow). x.bytes) m.2 ∙ sym b.bytes) known

    all_read : AreRead out
    all_read = record { fields = fields_read; methods = methods_read; properties = properties_read; bodies = bodies_read; field_data = data_read }

pub are_read : PartsAreRead
unfolding restricted output_of
are_read internal recs entry roots kept rec e records marks good =
    let o : Output = output_of recs kept in
    let m = map_some (restricted_by internal o (placed_methods (moved_methods o))) (slice_get recs 0) rec e in
    subst AreRead m.2 (all_read o entry roots records marks good internal m.0)
