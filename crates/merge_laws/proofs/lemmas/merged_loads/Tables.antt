-- The values of each table of what is left fit their columns.
use Rattle.std.proofs.Common.{◌≡◌, ℕ, zero, suc, ◌+◌, ◌<◌, ◌≤◌, ◌^◌, List, [], ◌∷◌, length, map, get_or, Bool, true, false, Some, refl, sym, subst, arith}
use Rattle.std.specs.Prelude.{slice_get, if◌then◌else◌}
use Rattle.std.proofs.lemmas.Option.{none-some}
use Rattle.il_base.specs.declared.type_flags.TheConstants as type_flag
use Rattle.il_base.specs.declared.cli_format.column.CodedIndex.TheVariants.{HasConstant, HasSemantics}
use Rattle.il_base.specs.cli_format.Columns.{columns_of, schema}
use Rattle.il_base.specs.cli_format.Tokens.{coded_of}
use Rattle.il_base.specs.declared.world_model.types.TypeRefRow.{TypeRefRow}
use Rattle.il_base.specs.declared.world_model.types.TypeDefRow.{TypeDefRow}
use Rattle.il_base.specs.declared.world_model.types.InterfaceImplRow.{InterfaceImplRow}
use Rattle.il_base.specs.declared.world_model.types.NestedClassRow.{NestedClassRow}
use Rattle.il_base.specs.declared.world_model.types.ClassLayoutRow.{ClassLayoutRow}
use Rattle.il_base.specs.declared.world_model.types.TypeSpecRow.{TypeSpecRow}
use Rattle.il_base.specs.declared.world_model.types.GenericParamRow.{GenericParamRow}
use Rattle.il_base.specs.declared.world_model.types.GenericParamConstraintRow.{GenericParamConstraintRow}
use Rattle.il_base.specs.declared.world_model.members.FieldRow.{FieldRow}
use Rattle.il_base.specs.declared.world_model.members.MethodDefRow.{MethodDefRow}
use Rattle.il_base.specs.declared.world_model.members.ParamRow.{ParamRow}
use Rattle.il_base.specs.declared.world_model.members.MemberRefRow.{MemberRefRow}
use Rattle.il_base.specs.declared.world_model.members.MethodSpecRow.{MethodSpecRow}
use Rattle.il_base.specs.declared.world_model.members.StandAloneSigRow.{StandAloneSigRow}
use Rattle.il_base.specs.declared.world_model.members.PropertyRow.{PropertyRow}
use Rattle.il_base.specs.declared.world_model.members.PropertyMapRow.{PropertyMapRow}
use Rattle.il_base.specs.declared.world_model.members.EventRow.{EventRow}
use Rattle.il_base.specs.declared.world_model.members.EventMapRow.{EventMapRow}
use Rattle.il_base.specs.declared.world_model.members.MethodSemanticsRow.{MethodSemanticsRow}
use Rattle.il_base.specs.declared.world_model.members.MethodImplRow.{MethodImplRow}
use Rattle.il_base.specs.declared.world_model.extras.ConstantRow.{ConstantRow}
use Rattle.il_base.specs.declared.world_model.extras.CustomAttributeRow.{CustomAttributeRow}
use Rattle.il_base.specs.declared.world_model.extras.FieldRvaRow.{FieldRvaRow}
use Rattle.il_base.specs.declared.world_model.assemblies.AssemblyRow.{AssemblyRow}
use Rattle.il_base.specs.declared.world_model.record.AsmRec.{AsmRec}
use Rattle.il_base.specs.world_model.Worlds.{types_in}
use Rattle.rules.specs.file_layout.Bodies.{code_behind}
use Rattle.rules.specs.declared.link_rules.row_at.RowAt.{RowAt}
use Rattle.rules.specs.link_rules.Members.{methods_in, fields_in}
use Rattle.rules.specs.link_rules.Cycles.{listed}
use Rattle.rules.specs.mark_rules.Places.{type_item, method_item, field_item, prop_item, event_item, props_in, events_in}
use Rattle.rules.specs.declared.record_layout.value.Value.{Value}
use Rattle.rules.specs.record_layout.Rows.{module_values, type_ref_values, type_def_values, field_values, method_def_values, param_values, interface_impl_values, member_ref_values, constant_values, custom_attribute_values, class_layout_values, stand_alone_sig_values, event_map_values, event_values, property_map_values, property_values, method_semantics_values, method_impl_values, type_spec_values, field_rva_values, assembly_values, assembly_ref_values, nested_class_values, generic_param_values, method_spec_values, generic_param_constraint_values}
use Rattle.rules.specs.record_layout.Tables.{with_rvas, method_rvas, field_rvas, values_of}
use Rattle.file_laws.specs.written_tables.Written.{IsText}
use Rattle.file_laws.specs.layout_laws.Columns.{FitsColumns, TableFits}
use Rattle.file_laws.proofs.lemmas.layout_laws.Lists.{of_mapped}
use Rattle.file_laws.proofs.lemmas.layout_laws.RowsJoined.{with_these}
use Rattle.rules.specs.merge_rules.Numbers.{kept_types, kept_methods, kept_fields, kept_properties, kept_events}
use Rattle.rules.specs.merge_rules.Refs.{Output}
use Rattle.rules.specs.merge_rules.Rows.{all_rows, kept_params, kept_generic_params, kept_row_token}
use Rattle.rules.specs.merge_rules.Moved.{without, moved_type_row, moved_field_row, moved_method_row, moved_param_row, moved_property_row, moved_event_row}
use Rattle.rules.specs.merge_rules.Restricted.{bodies_of, placed_methods, moved_methods, new_constant, new_layout, new_semantics, semantics_of, new_generic_param, moved_assembly}
use Rattle.merge_laws.proofs.lemmas.merged_record.Lists.{place_in, from_map, from_flat, from_all, OfInput}
use Rattle.merge_laws.proofs.lemmas.merged_record.Sorting.{sorted_in}
use Rattle.merge_laws.proofs.lemmas.merged_record.Rows.{from_places, from_sorted, from_kept, from_kept_params}
use Rattle.merge_laws.proofs.lemmas.merged_record.Sizes.{left, param_is}
use Rattle.merge_laws.proofs.lemmas.merged_loads.Lists.{Every}
use Rattle.merge_laws.proofs.lemmas.merged_loads.FileRows.{FileFits, own_method_def}
use Rattle.merge_laws.proofs.lemmas.merged_loads.Names.{Named}
use Rattle.merge_laws.proofs.lemmas.merged_loads.NewNames.{written_text}
use Rattle.merge_laws.proofs.lemmas.merged_loads.MetNames.{MetNamed}
use Rattle.merge_laws.proofs.lemmas.merged_loads.References.{refs_named, scopes_fit, member_refs_named}
use Rattle.merge_laws.proofs.lemmas.merged_loads.Addresses.{rvas_placed, is_placed, data_placed, data_small}

-- rows with their own addresses
abbrev own_field_rva : FieldRvaRow → List Value
own_field_rva row = field_rva_values row.rva row

-- ---- tables by their numbers, the first of which has this one

abbrev AllFit : ℕ → List (List (List Value)) → Type 0
AllFit t [] = Unit {0}
AllFit t (rows ∷ more) = TableFits t rows × AllFit (suc t) more

fit_at : (from : ℕ) (tables : List (List (List Value))) (t : ℕ) → AllFit from tables → TableFits (from + t) (get_or tables t [])
fit_at from [] t h = λ k vs e. absurd (none-some vs e)
fit_at from (rows ∷ more) zero h =
    let same : from ≡ from + 0 = omega arith in
    subst (λ (n : ℕ). TableFits n rows) same h.0
fit_at from (rows ∷ more) (suc t) h =
    let same : suc from + t ≡ from + suc t = omega arith in
    subst (λ (n : ℕ). TableFits n (get_or more t [])) same (fit_at (suc from) more t h.1)

none : (t : ℕ) → TableFits t []
none t k vs e = absurd (none-some vs e)

made : {A : Type 0} (t : ℕ) (values : A → List Value) (xs : List A) → Every (λ (x : A). FitsColumns (columns_of t) (values x)) xs → TableFits t (map values xs)
made t values xs h k vs e = let f = of_mapped values xs k vs e in subst (FitsColumns (columns_of t)) f.2 (h f.0 (place_in xs k f.0 f.1))

-- ---- flags

without_small : (flag flags n : ℕ) → flags < n → without flag flags < n
without_small flag flags n h = omega arith

seen_small : (b : Bool) (flags n : ℕ) → flags < n → (if b then without type_flag.VISIBILITY_MASK flags else flags) < n
seen_small true flags n h = without_small type_flag.VISIBILITY_MASK flags n h
seen_small false flags n h = h

-- ---- the tables

module _ (internal : Bool) (o : Output) (primary : AsmRec) (first : FileFits primary) (fits : (a : ℕ) (rec : AsmRec) → OfInput o.recs a rec → FileFits rec) (named : Every Named o.recs) (mets : Every MetNamed o.mets)
    (few : length (kept_types o.recs o.kept) ≤ 16777216) where
  abbrev out : AsmRec
  out = left internal o primary

  input_of : (at : RowAt) (rec : AsmRec) → suc at.asm < length o.recs → slice_get o.recs at.asm ≡ Some rec → FileFits rec
  input_of at rec within there = fits at.asm rec (record { there = there; within = within })

  type_refs : Every (λ (row : TypeRefRow). FitsColumns (columns_of 0x01) (type_ref_values row)) out.type_ref
  unfolding columns_of schema
  type_refs row c = let n = refs_named o named row c in (tt, (n.0, (n.1, tt)))

  type_defs : Every (λ (row : TypeDefRow). FitsColumns (columns_of 0x02) (type_def_values row)) out.type_def
  unfolding columns_of schema kept_types
  type_defs row c =
      let p = from_places o.recs (λ rec. rec.type_def) (moved_type_row internal o) (kept_types o.recs o.kept) row c in
      let k = from_kept types_in (type_item o.recs) o.recs o.kept p.at p.listed in
      let h = (input_of p.at p.rec k.input.within p.there).type_defs p.row (place_in p.rec.type_def p.at.row p.row p.is) in
      subst (λ (x : TypeDefRow). FitsColumns (columns_of 0x02) (type_def_values x)) p.made (
        seen_small _ (without type_flag.HAS_SECURITY p.row.flags) (2 ^ 32) (without_small type_flag.HAS_SECURITY p.row.flags (2 ^ 32) h.0),
        (written_text o p.at p.row.name named few h.1.0, (h.1.1.0, (tt, (tt, (tt, tt))))),
      )

  field_rows : Every (λ (row : FieldRow). FitsColumns (columns_of 0x04) (field_values row)) out.field
  unfolding columns_of schema kept_fields
  field_rows row c =
      let p = from_places o.recs (λ rec. rec.field) (moved_field_row o) (kept_fields o.recs o.kept) row c in
      let k = from_kept fields_in (field_item o.recs) o.recs o.kept p.at p.listed in
      let h = (input_of p.at p.rec k.input.within p.there).fields p.row (place_in p.rec.field p.at.row p.row p.is) in
      subst (λ (x : FieldRow). FitsColumns (columns_of 0x04) (field_values x)) p.made (without_small _ p.row.flags (2 ^ 16) h.0, (h.1.0, (tt, tt)))

  method_rows : Every (λ (row : MethodDefRow). FitsColumns (columns_of 0x06) (own_method_def row)) out.method_def
  unfolding columns_of schema kept_methods
  method_rows row c =
      let q = is_placed (moved_methods o) row c in
      let p = from_places o.recs (λ rec. rec.method_def) (moved_method_row o) (kept_methods o.recs o.kept) q.old q.there in
      let k = from_kept methods_in (method_item o.recs) o.recs o.kept p.at p.listed in
      let h = (input_of p.at p.rec k.input.within p.there).methods p.row (place_in p.rec.method_def p.at.row p.row p.is) in
      let impl : q.old.impl_flags < 2 ^ 16 = subst (λ (x : MethodDefRow). x.impl_flags < 2 ^ 16) p.made h.1.0 in
      let flags : q.old.flags < 2 ^ 16 = subst (λ (x : MethodDefRow). x.flags < 2 ^ 16) p.made (without_small _ p.row.flags (2 ^ 16) h.1.1.0) in
      let text : IsText q.old.name = subst (λ (x : MethodDefRow). IsText x.name) p.made h.1.1.1.0 in
      subst (λ (x : MethodDefRow). FitsColumns (columns_of 0x06) (own_method_def x)) q.is
      (q.small, (impl, (flags, (text, (tt, (tt, tt))))))

  param_rows : Every (λ (row : ParamRow). FitsColumns (columns_of 0x08) (param_values row)) out.param
  unfolding columns_of schema kept_methods
  param_rows row c =
      let p = from_places o.recs (λ rec. rec.param) (λ at rec x. moved_param_row x) (kept_params o.recs o.kept) row c in
      let m = from_kept_params o.recs o.kept p.at p.listed in
      let k = from_kept methods_in (method_item o.recs) o.recs o.kept m.0 m.1 in
      let w = k.input.within in
      let a : p.at.asm ≡ m.0.asm = m.2.asm in
      let h = (input_of p.at p.rec (omega arith) p.there).params p.row (place_in p.rec.param p.at.row p.row p.is) in
      subst (λ (x : ParamRow). FitsColumns (columns_of 0x08) (param_values x)) p.made (without_small _ p.row.flags (2 ^ 16) h.0, (h.1.0, (h.1.1.0, tt)))

  interface_rows : Every (λ (row : InterfaceImplRow). FitsColumns (columns_of 0x09) (interface_impl_values row)) out.interface_impl
  unfolding columns_of schema
  interface_rows row c = (tt, (tt, tt))

  member_refs : Every (λ (row : MemberRefRow). FitsColumns (columns_of 0x0a) (member_ref_values row)) out.member_ref
  unfolding columns_of schema
  member_refs row c = (tt, (member_refs_named o named mets row c, (tt, tt)))

  constant_rows : Every (λ (row : ConstantRow). FitsColumns (columns_of 0x0b) (constant_values row)) out.constant
  unfolding columns_of schema
  constant_rows row c =
      let r = from_all (λ rec. rec.constant) (new_constant o) o.recs row (sorted_in (λ (x : ConstantRow). coded_of HasConstant x.parent) (all_rows (λ rec. rec.constant) (new_constant o) o.recs) row c) in
      let h = (fits r.asm r.rec r.input).constants r.row (place_in r.rec.constant r.place r.row r.there) in
      let m = from_map (λ parent. record r.row { parent = parent }) (listed (kept_row_token o.recs o.kept r.asm r.row.parent)) row r.inside in
      subst (λ (x : ConstantRow). FitsColumns (columns_of 0x0b) (constant_values x)) m.2 (h.0, (h.1.0, (tt, (tt, tt))))

  attribute_rows : Every (λ (row : CustomAttributeRow). FitsColumns (columns_of 0x0c) (custom_attribute_values row)) out.custom_attribute
  unfolding columns_of schema
  attribute_rows row c = (tt, (tt, (tt, tt)))

  layout_rows : Every (λ (row : ClassLayoutRow). FitsColumns (columns_of 0x0f) (class_layout_values row)) out.class_layout
  unfolding columns_of schema
  layout_rows row c =
      let r = from_all (λ rec. rec.class_layout) (new_layout o) o.recs row (sorted_in (λ (x : ClassLayoutRow). x.parent) (all_rows (λ rec. rec.class_layout) (new_layout o) o.recs) row c) in
      let h = (fits r.asm r.rec r.input).class_layouts r.row (place_in r.rec.class_layout r.place r.row r.there) in
      let m = from_map (λ parent. record r.row { parent = parent }) (listed (kept_row_token o.recs o.kept r.asm r.row.parent)) row r.inside in
      subst (λ (x : ClassLayoutRow). FitsColumns (columns_of 0x0f) (class_layout_values x)) m.2 (h.0, (h.1.0, (tt, tt)))

  locals_rows : Every (λ (row : StandAloneSigRow). FitsColumns (columns_of 0x11) (stand_alone_sig_values row)) out.stand_alone_sig
  unfolding columns_of schema
  locals_rows row c = (tt, tt)

  event_maps : Every (λ (row : EventMapRow). FitsColumns (columns_of 0x12) (event_map_values row)) out.event_map
  unfolding columns_of schema
  event_maps row c = (tt, (tt, tt))

  event_rows : Every (λ (row : EventRow). FitsColumns (columns_of 0x14) (event_values row)) out.event
  unfolding columns_of schema kept_events
  event_rows row c =
      let p = from_places o.recs (λ rec. rec.event) (moved_event_row o) (kept_events o.recs o.kept) row c in
      let k = from_kept events_in (event_item o.recs) o.recs o.kept p.at p.listed in
      let h = (input_of p.at p.rec k.input.within p.there).events p.row (place_in p.rec.event p.at.row p.row p.is) in
      subst (λ (x : EventRow). FitsColumns (columns_of 0x14) (event_values x)) p.made (h.0, (h.1.0, (tt, tt)))

  property_maps : Every (λ (row : PropertyMapRow). FitsColumns (columns_of 0x15) (property_map_values row)) out.property_map
  unfolding columns_of schema
  property_maps row c = (tt, (tt, tt))

  property_rows : Every (λ (row : PropertyRow). FitsColumns (columns_of 0x17) (property_values row)) out.property
  unfolding columns_of schema kept_properties
  property_rows row c =
      let p = from_places o.recs (λ rec. rec.property) (moved_property_row o) (kept_properties o.recs o.kept) row c in
      let k = from_kept props_in (prop_item o.recs) o.recs o.kept p.at p.listed in
      let h = (input_of p.at p.rec k.input.within p.there).properties p.row (place_in p.rec.property p.at.row p.row p.is) in
      subst (λ (x : PropertyRow). FitsColumns (columns_of 0x17) (property_values x)) p.made (h.0, (h.1.0, (tt, tt)))

  semantics_rows : Every (λ (row : MethodSemanticsRow). FitsColumns (columns_of 0x18) (method_semantics_values row)) out.method_semantics
  unfolding columns_of schema
  semantics_rows row c =
      let r = from_all (λ rec. rec.method_semantics) (new_semantics o) o.recs row (sorted_in (λ (x : MethodSemanticsRow). coded_of HasSemantics x.association) (all_rows (λ rec. rec.method_semantics) (new_semantics o) o.recs) row c) in
      let h = (fits r.asm r.rec r.input).semantics r.row (place_in r.rec.method_semantics r.place r.row r.there) in
      let f = from_flat (λ method. map (semantics_of r.row.semantics method) (listed (kept_row_token o.recs o.kept r.asm r.row.association))) (listed (kept_row_token o.recs o.kept r.asm r.row.method)) row r.inside in
      let m = from_map (semantics_of r.row.semantics f.item) (listed (kept_row_token o.recs o.kept r.asm r.row.association)) row f.inside in
      subst (λ (x : MethodSemanticsRow). FitsColumns (columns_of 0x18) (method_semantics_values x)) m.2 (h.0, (tt, (tt, tt)))

  impl_rows : Every (λ (row : MethodImplRow). FitsColumns (columns_of 0x19) (method_impl_values row)) out.method_impl
  unfolding columns_of schema
  impl_rows row c = (tt, (tt, (tt, tt)))

  spec_rows : Every (λ (row : TypeSpecRow). FitsColumns (columns_of 0x1b) (type_spec_values row)) out.type_spec
  unfolding columns_of schema
  spec_rows row c = (tt, tt)

  data_rows : Every (λ (row : FieldRvaRow). FitsColumns (columns_of 0x1d) (own_field_rva row)) out.field_rva
  unfolding columns_of schema
  data_rows row c = (data_small (length (code_behind [] (bodies_of (placed_methods (moved_methods o))))) _ row c, (tt, tt))

  assembly_rows : Every (λ (row : AssemblyRow). FitsColumns (columns_of 0x20) (assembly_values row)) out.assembly
  unfolding columns_of schema
  assembly_rows row c =
      let m = from_map moved_assembly primary.assembly row c in
      let h = first.assemblies m.0 m.1 in
      subst (λ (x : AssemblyRow). FitsColumns (columns_of 0x20) (assembly_values x)) m.2
      (h.0, (h.1.0, (h.1.1.0, (h.1.1.1.0, (h.1.1.1.1.0, (without_small 1 m.0.flags (2 ^ 32) h.1.1.1.1.1.0, (tt, (h.1.1.1.1.1.1.1.0, (h.1.1.1.1.1.1.1.1.0, tt)))))))))

  nested_rows : Every (λ (row : NestedClassRow). FitsColumns (columns_of 0x29) (nested_class_values row)) out.nested_class
  unfolding columns_of schema
  nested_rows row c = (tt, (tt, tt))

  generic_rows : Every (λ (row : GenericParamRow). FitsColumns (columns_of 0x2a) (generic_param_values row)) out.generic_param
  unfolding columns_of schema
  generic_rows row c =
      let s = from_sorted o.recs (λ rec. rec.generic_param) new_generic_param (kept_generic_params o.recs o.kept) row c in
      let i = param_is o.recs o.kept s.item s.listed in
      let h = (input_of s.item.at s.rec i.input.within s.there).generic_params s.row (place_in s.rec.generic_param s.item.at.row s.row s.is) in
      subst (λ (x : GenericParamRow). FitsColumns (columns_of 0x2a) (generic_param_values x)) s.made (h.0, (h.1.0, (tt, (h.1.1.1.0, tt))))

  instance_rows : Every (λ (row : MethodSpecRow). FitsColumns (columns_of 0x2b) (method_spec_values row)) out.method_spec
  unfolding columns_of schema
  instance_rows row c = (tt, (tt, tt))

  constraint_rows : Every (λ (row : GenericParamConstraintRow). FitsColumns (columns_of 0x2c) (generic_param_constraint_values row)) out.generic_param_constraint
  unfolding columns_of schema
  constraint_rows row c = (tt, (tt, tt))

  -- ---- addresses

  pub body_rvas : map (λ (m : MethodDefRow). m.rva) out.method_def ≡ method_rvas out
  body_rvas = rvas_placed (moved_methods o)

  pub data_rvas : map (λ (f : FieldRvaRow). f.rva) out.field_rva ≡ field_rvas out
  data_rvas = data_placed (code_behind [] (bodies_of (placed_methods (moved_methods o)))) (length (code_behind [] (bodies_of (placed_methods (moved_methods o))))) _ refl

  method_table : TableFits 0x06 (with_rvas method_def_values (method_rvas out) out.method_def)
  method_table =
      subst (λ (rows : List (List Value)). TableFits 0x06 rows) (sym (with_these method_def_values (λ (x : MethodDefRow). x.rva) out.method_def (method_rvas out) body_rvas)) (made 0x06 own_method_def out.method_def method_rows)

  data_table : TableFits 0x1d (with_rvas field_rva_values (field_rvas out) out.field_rva)
  data_table =
      subst (λ (rows : List (List Value)). TableFits 0x1d rows) (sym (with_these field_rva_values (λ (x : FieldRvaRow). x.rva) out.field_rva (field_rvas out) data_rvas)) (made 0x1d own_field_rva out.field_rva data_rows)

  -- ---- all of them

  all_fit : AllFit 0 (values_of out)
  unfolding values_of
  all_fit =
      (made 0x00 module_values out.«module» first.modules, (made 0x01 type_ref_values out.type_ref type_refs, (made 0x02 type_def_values out.type_def type_defs, (none 0x03, (made 0x04 field_values out.field field_rows, (none 0x05, (method_table, (none 0x07, (made 0x08 param_values out.param param_rows, (made 0x09 interface_impl_values out.interface_impl interface_rows, (made 0x0a member_ref_values out.member_ref member_refs, (made 0x0b constant_values out.constant constant_rows, (made 0x0c custom_attribute_values out.custom_attribute attribute_rows, (none 0x0d, (none 0x0e, (made 0x0f class_layout_values out.class_layout layout_rows, (none 0x10, (made 0x11 stand_alone_sig_values out.stand_alone_sig locals_rows, (made 0x12 event_map_values out.event_map event_maps, (none 0x13, (made 0x14 event_values out.event event_rows, (made 0x15 property_map_values out.property_map property_maps, (none 0x16, (made 0x17 property_values out.property property_rows, (made 0x18 method_semantics_values out.method_semantics semantics_rows, (made 0x19 method_impl_values out.method_impl impl_rows, (none 0x1a, (made 0x1b type_spec_values out.type_spec spec_rows, (none 0x1c, (data_table, (none 0x1e, (none 0x1f, (made 0x20 assembly_values out.assembly assembly_rows, (none 0x21, (none 0x22, (made 0x23 assembly_ref_values out.assembly_ref (scopes_fit o named), (none 0x24, (none 0x25, (none 0x26, (none 0x27, (none 0x28, (made 0x29 nested_class_values out.nested_class nested_rows, (made 0x2a generic_param_values out.generic_param generic_rows, (made 0x2b method_spec_values out.method_spec instance_rows, (made 0x2c generic_param_constraint_values out.generic_param_constraint constraint_rows, tt)))))))))))))))))))))))))))))))))))))))))))))

  pub tables_fit : (t : ℕ) → TableFits t (get_or (values_of out) t [])
  tables_fit t =
      let same : 0 + t ≡ t = omega arith in
      subst (λ (n : ℕ). TableFits n (get_or (values_of out) t [])) same (fit_at 0 (values_of out) t all_fit)
