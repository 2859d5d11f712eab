-- The rows of a file's record have values that fit their columns, and its texts have UTF-16 units.
use Rattle.std.proofs.Common.{◌≡◌, ℕ, zero, suc, ◌%◌, ◌<◌, ◌^◌, Bool, true, false, List, [], ◌∷◌, length, drop, Option, Some, None, unwrap_or, refl, sym, subst, ◌∙◌, arith}
use Rattle.std.specs.Prelude.{◌==◌, ◌||◌, if◌then◌else◌}
use Rattle.std.specs.List.{AllByRecursion}
use Rattle.il_base.specs.blob_grammar.Laws.{AreBytes}
use Rattle.il_base.proofs.lemmas.body_grammar.ReadNumbers.{bytes-drop}
use Rattle.il_base.specs.declared.cli_format.stream.StreamName.TheVariants.{Strings, Guids, Tables, UserStrings}
use Rattle.il_base.specs.cli_format.Streams.{heap}
use Rattle.il_base.specs.cli_format.Heaps.{counted_at, user_string_of}
use Rattle.il_base.specs.cli_format.Columns.{columns_of, schema}
use Rattle.il_base.specs.cli_format.Image.{metadata_of, subsystem_of}
use Rattle.il_base.specs.cli_format.Tables.{rows_of, width, column_of, cell_number}
use Rattle.il_base.specs.cli_format.Metadata.{tables_stream}
use Rattle.il_base.specs.declared.world_model.types.ModuleRow.{ModuleRow}
use Rattle.il_base.specs.declared.world_model.types.TypeRefRow.{TypeRefRow}
use Rattle.il_base.specs.declared.world_model.types.TypeDefRow.{TypeDefRow}
use Rattle.il_base.specs.declared.world_model.types.ClassLayoutRow.{ClassLayoutRow}
use Rattle.il_base.specs.declared.world_model.types.GenericParamRow.{GenericParamRow}
use Rattle.il_base.specs.declared.world_model.members.FieldRow.{FieldRow}
use Rattle.il_base.specs.declared.world_model.members.MethodDefRow.{MethodDefRow}
use Rattle.il_base.specs.declared.world_model.members.ParamRow.{ParamRow}
use Rattle.il_base.specs.declared.world_model.members.MemberRefRow.{MemberRefRow}
use Rattle.il_base.specs.declared.world_model.members.EventRow.{EventRow}
use Rattle.il_base.specs.declared.world_model.members.PropertyRow.{PropertyRow}
use Rattle.il_base.specs.declared.world_model.members.MethodSemanticsRow.{MethodSemanticsRow}
use Rattle.il_base.specs.declared.world_model.extras.ConstantRow.{ConstantRow}
use Rattle.il_base.specs.declared.world_model.assemblies.AssemblyRow.{AssemblyRow}
use Rattle.il_base.specs.declared.world_model.assemblies.AssemblyRefRow.{AssemblyRefRow}
use Rattle.il_base.specs.declared.world_model.record.UserText.{UserText}
use Rattle.il_base.specs.declared.world_model.record.AsmRec.{AsmRec}
use Rattle.rules.specs.record_format.Cells.{number_in, text_in, guid_in, count_of, all_rows}
use Rattle.rules.specs.record_format.Types.{module_row, type_ref_row, type_def_row, class_layout_row, assembly_row, assembly_ref_row, generic_param_row}
use Rattle.rules.specs.record_format.Members.{field_row, method_def_row, param_row, member_ref_row, event_row, property_row, method_semantics_row}
use Rattle.rules.specs.record_format.Others.{constant_row}
use Rattle.rules.specs.record_format.Texts.{units_of, text_of_item, user_text_at, and_text, text_if_loaded, texts_below, text_offsets, is_loaded, user_token}
use Rattle.rules.specs.record_format.Record.{record_at, methods_of, HasRecord}
use Rattle.rules.specs.declared.record_layout.value.Value.{Value}
use Rattle.rules.specs.record_layout.Rows.{module_values, type_ref_values, type_def_values, field_values, method_def_values, param_values, member_ref_values, constant_values, class_layout_values, event_values, property_values, method_semantics_values, assembly_values, assembly_ref_values, generic_param_values}
use Rattle.file_laws.specs.written_tables.Written.{IsText}
use Rattle.file_laws.specs.layout_laws.Columns.{IsGuid, FitsColumns}
use Rattle.file_laws.proofs.lemmas.layout_laws.FileCells.{heap_bytes, metadata_bytes, number_below, text_is, guid_is, counted_is, units_small}
use Rattle.file_laws.proofs.lemmas.layout_laws.FileDemands.{singles, length_rows, each_row}
use Rattle.merge_laws.proofs.lemmas.merged_record.Lists.{and_then_some}
use Rattle.merge_laws.specs.merged_loads.Laws.{IsOfFile}
use Rattle.merge_laws.proofs.lemmas.merged_loads.Lists.{Every, every_row, every_none, every_one, every_join}

-- rows with their own addresses
abbrev pub own_method_def : MethodDefRow → List Value
own_method_def row = method_def_values row.rva row

abbrev pub UnitsFit : UserText → Type 0
UnitsFit t = AllByRecursion (λ u. u < 2 ^ 16) t.text

pub record FileFits (rec : AsmRec) : Type 0 where
  pub modules : Every (λ (row : ModuleRow). FitsColumns (columns_of 0x00) (module_values row)) rec.«module»
  pub type_refs : Every (λ (row : TypeRefRow). FitsColumns (columns_of 0x01) (type_ref_values row)) rec.type_ref
  pub type_defs : Every (λ (row : TypeDefRow). FitsColumns (columns_of 0x02) (type_def_values row)) rec.type_def
  pub fields : Every (λ (row : FieldRow). FitsColumns (columns_of 0x04) (field_values row)) rec.field
  pub methods : Every (λ (row : MethodDefRow). FitsColumns (columns_of 0x06) (own_method_def row)) rec.method_def
  pub params : Every (λ (row : ParamRow). FitsColumns (columns_of 0x08) (param_values row)) rec.param
  pub member_refs : Every (λ (row : MemberRefRow). FitsColumns (columns_of 0x0a) (member_ref_values row)) rec.member_ref
  pub constants : Every (λ (row : ConstantRow). FitsColumns (columns_of 0x0b) (constant_values row)) rec.constant
  pub class_layouts : Every (λ (row : ClassLayoutRow). FitsColumns (columns_of 0x0f) (class_layout_values row)) rec.class_layout
  pub events : Every (λ (row : EventRow). FitsColumns (columns_of 0x14) (event_values row)) rec.event
  pub properties : Every (λ (row : PropertyRow). FitsColumns (columns_of 0x17) (property_values row)) rec.property
  pub semantics : Every (λ (row : MethodSemanticsRow). FitsColumns (columns_of 0x18) (method_semantics_values row)) rec.method_semantics
  pub assemblies : Every (λ (row : AssemblyRow). FitsColumns (columns_of 0x20) (assembly_values row)) rec.assembly
  pub assembly_refs : Every (λ (row : AssemblyRefRow). FitsColumns (columns_of 0x23) (assembly_ref_values row)) rec.assembly_ref
  pub generic_params : Every (λ (row : GenericParamRow). FitsColumns (columns_of 0x2a) (generic_param_values row)) rec.generic_param
  pub users : Every UnitsFit rec.user
  pub subsystem : rec.subsystem < 2 ^ 16
  pub one_module : length rec.«module» ≡ 1
  pub one_assembly : length rec.assembly ≡ 1

-- ---- texts of `#US`

item_by : (at : ℕ) (b : Bool) (item : List ℕ) (t : UserText) → AreBytes item → (if b then Some (record { token = user_token at; text = units_of item }) else None) ≡ Some t → UnitsFit t
item_by at true item t bytes e = let same : record { token = user_token at; text = units_of item } ≡ t = cc in subst UnitsFit same (units_small item bytes)
item_by at false item t bytes e = absurd (cc)

item_bytes : (bs : List ℕ) (o : Option (List ℕ)) (item : List ℕ) → o ≡ Some item → AreBytes (unwrap_or o []) → AreBytes item
item_bytes bs None item e h = absurd (cc)
item_bytes bs (Some x) item e h = let same : x ≡ item = cc in subst AreBytes same h

text_units : (user : List ℕ) (at : ℕ) (t : UserText) → AreBytes user → user_text_at user at ≡ Some t → UnitsFit t
unfolding user_text_at user_string_of
text_units user at t bytes e =
    let r = and_then_some (text_of_item at) (counted_at (drop at user)) t e in
    item_by at ((length r.0 == 0) || (length r.0 % 2 == 1)) r.0 t (item_bytes user (counted_at (drop at user)) r.0 r.1 (counted_is (drop at user) (bytes-drop at user bytes)).bytes) r.2

and_text_units : (texts : List UserText) (o : Option UserText) → Every UnitsFit texts → ((t : UserText) → o ≡ Some t → UnitsFit t) → Every UnitsFit (and_text texts o)
and_text_units texts None g h = g
and_text_units texts (Some t) g h = every_join UnitsFit texts (t ∷ []) g (every_one UnitsFit t (h t refl))

if_loaded_units : (user : List ℕ) (at : ℕ) (b : Bool) (t : UserText) → AreBytes user → (if b then user_text_at user at else None) ≡ Some t → UnitsFit t
if_loaded_units user at true t bytes e = text_units user at t bytes e
if_loaded_units user at false t bytes e = absurd (cc)

below_units : (user : List ℕ) (methods : List MethodDefRow) (n : ℕ) → AreBytes user → Every UnitsFit (texts_below user methods n)
unfolding texts_below
below_units user methods zero bytes = every_none UnitsFit
below_units user methods (suc n) bytes =
    and_text_units (texts_below user methods n) (text_if_loaded user methods n) (below_units user methods n bytes)
    (λ t e. if_loaded_units user n (is_loaded methods (user_token n)) t bytes e)

-- ---- rows

module _ (bs : List ℕ) (bytes : AreBytes bs) where
  abbrev m : List ℕ
  m = metadata_of bs

  abbrev ts : List ℕ
  ts = tables_stream m

  m_bytes : AreBytes m
  m_bytes = metadata_bytes bs bytes

  number : (t c r n : ℕ) → width ts (column_of t c) ≡ n → 0 < 256 ^ n → number_in m t c r < 256 ^ n
  unfolding number_in cell_number
  number t c r n e z = rw e (number_below n ts _ (heap_bytes m Tables m_bytes) z)

  text : (t c r : ℕ) → IsText (text_in m t c r)
  unfolding text_in
  text t c r = text_is (heap m Strings) (number_in m t c r)

  guid : (t c r : ℕ) → IsGuid (guid_in m t c r)
  unfolding guid_in
  guid t c r = guid_is (heap m Guids) (number_in m t c r)

  modules_fit : (r : ℕ) → FitsColumns (columns_of 0x00) (module_values (module_row m r))
  unfolding module_row column_of columns_of schema width
  modules_fit r = (number 0x00 0 r 2 refl (omega arith), (text 0x00 1 r, (guid 0x00 2 r, (guid 0x00 3 r, (guid 0x00 4 r, tt)))))

  type_refs_fit : (r : ℕ) → FitsColumns (columns_of 0x01) (type_ref_values (type_ref_row m r))
  unfolding type_ref_row column_of columns_of schema width
  type_refs_fit r = (tt, (text 0x01 1 r, (text 0x01 2 r, tt)))

  type_defs_fit : (r : ℕ) → FitsColumns (columns_of 0x02) (type_def_values (type_def_row m r))
  unfolding type_def_row column_of columns_of schema width
  type_defs_fit r = (number 0x02 0 r 4 refl (omega arith), (text 0x02 1 r, (text 0x02 2 r, (tt, (tt, (tt, tt))))))

  fields_fit : (r : ℕ) → FitsColumns (columns_of 0x04) (field_values (field_row m r))
  unfolding field_row column_of columns_of schema width
  fields_fit r = (number 0x04 0 r 2 refl (omega arith), (text 0x04 1 r, (tt, tt)))

  methods_fit : (r : ℕ) → FitsColumns (columns_of 0x06) (own_method_def (method_def_row bs m r))
  unfolding method_def_row column_of columns_of schema width
  methods_fit r = (number 0x06 0 r 4 refl (omega arith), (number 0x06 1 r 2 refl (omega arith), (number 0x06 2 r 2 refl (omega arith), (text 0x06 3 r, (tt, (tt, tt))))))

  params_fit : (r : ℕ) → FitsColumns (columns_of 0x08) (param_values (param_row m r))
  unfolding param_row column_of columns_of schema width
  params_fit r = (number 0x08 0 r 2 refl (omega arith), (number 0x08 1 r 2 refl (omega arith), (text 0x08 2 r, tt)))

  member_refs_fit : (r : ℕ) → FitsColumns (columns_of 0x0a) (member_ref_values (member_ref_row m r))
  unfolding member_ref_row column_of columns_of schema width
  member_refs_fit r = (tt, (text 0x0a 1 r, (tt, tt)))

  constants_fit : (r : ℕ) → FitsColumns (columns_of 0x0b) (constant_values (constant_row m r))
  unfolding constant_row column_of columns_of schema width
  constants_fit r = (number 0x0b 0 r 1 refl (omega arith), (omega arith, (tt, (tt, tt))))

  class_layouts_fit : (r : ℕ) → FitsColumns (columns_of 0x0f) (class_layout_values (class_layout_row m r))
  unfolding class_layout_row column_of columns_of schema width
  class_layouts_fit r = (number 0x0f 0 r 2 refl (omega arith), (number 0x0f 1 r 4 refl (omega arith), (tt, tt)))

  events_fit : (r : ℕ) → FitsColumns (columns_of 0x14) (event_values (event_row m r))
  unfolding event_row column_of columns_of schema width
  events_fit r = (number 0x14 0 r 2 refl (omega arith), (text 0x14 1 r, (tt, tt)))

  properties_fit : (r : ℕ) → FitsColumns (columns_of 0x17) (property_values (property_row m r))
  unfolding property_row column_of columns_of schema width
  properties_fit r = (number 0x17 0 r 2 refl (omega arith), (text 0x17 1 r, (tt, tt)))

  semantics_fit : (r : ℕ) → FitsColumns (columns_of 0x18) (method_semantics_values (method_semantics_row m r))
  unfolding method_semantics_row column_of columns_of schema width
  semantics_fit r = (number 0x18 0 r 2 refl (omega arith), (tt, (tt, tt)))

  assemblies_fit : (r : ℕ) → FitsColumns (columns_of 0x20) (assembly_values (assembly_row m r))
  unfolding assembly_row column_of columns_of schema width
  assemblies_fit r = (number 0x20 0 r 4 refl (omega arith), (number 0x20 1 r 2 refl (omega arith), (number 0x20 2 r 2 refl (omega arith), (number 0x20 3 r 2 refl (omega arith), (number 0x20 4 r 2 refl (omega arith), (number 0x20 5 r 4 refl (omega arith), (tt, (text 0x20 7 r, (text 0x20 8 r, tt)))))))))

  assembly_refs_fit : (r : ℕ) → FitsColumns (columns_of 0x23) (assembly_ref_values (assembly_ref_row m r))
  unfolding assembly_ref_row column_of columns_of schema width
  assembly_refs_fit r = (number 0x23 0 r 2 refl (omega arith), (number 0x23 1 r 2 refl (omega arith), (number 0x23 2 r 2 refl (omega arith), (number 0x23 3 r 2 refl (omega arith), (number 0x23 4 r 4 refl (omega arith), (tt, (text 0x23 6 r, (text 0x23 7 r, (tt, tt)))))))))

  generic_params_fit : (r : ℕ) → FitsColumns (columns_of 0x2a) (generic_param_values (generic_param_row m r))
  unfolding generic_param_row column_of columns_of schema width
  generic_params_fit r = (number 0x2a 0 r 2 refl (omega arith), (number 0x2a 1 r 2 refl (omega arith), (tt, (text 0x2a 3 r, tt))))

  made : {A : Type 0} (t : ℕ) (row : ℕ → A) (values : A → List Value) → ((r : ℕ) → FitsColumns (columns_of t) (values (row r))) → Every (λ (x : A). FitsColumns (columns_of t) (values x)) (all_rows m t row)
  made {A} t row values fits = every_row (λ (x : A). FitsColumns (columns_of t) (values x)) (all_rows m t row) (each_row (λ x. FitsColumns (columns_of t) (values x)) row (count_of m t) (λ n lt. fits (suc n)))

read_fits : (bs : List ℕ) (rec : AsmRec) → AreBytes bs → HasRecord bs rec → FileFits (record_at bs)
unfolding record_at count_of subsystem_of
read_fits bs rec bytes has = record {
  modules = made bs bytes 0x00 (module_row (metadata_of bs)) module_values (modules_fit bs bytes);
  type_refs = made bs bytes 0x01 (type_ref_row (metadata_of bs)) type_ref_values (type_refs_fit bs bytes);
  type_defs = made bs bytes 0x02 (type_def_row (metadata_of bs)) type_def_values (type_defs_fit bs bytes);
  fields = made bs bytes 0x04 (field_row (metadata_of bs)) field_values (fields_fit bs bytes);
  methods = made bs bytes 0x06 (method_def_row bs (metadata_of bs)) own_method_def (methods_fit bs bytes);
  params = made bs bytes 0x08 (param_row (metadata_of bs)) param_values (params_fit bs bytes);
  member_refs = made bs bytes 0x0a (member_ref_row (metadata_of bs)) member_ref_values (member_refs_fit bs bytes);
  constants = made bs bytes 0x0b (constant_row (metadata_of bs)) constant_values (constants_fit bs bytes);
  class_layouts = made bs bytes 0x0f (class_layout_row (metadata_of bs)) class_layout_values (class_layouts_fit bs bytes);
  events = made bs bytes 0x14 (event_row (metadata_of bs)) event_values (events_fit bs bytes);
  properties = made bs bytes 0x17 (property_row (metadata_of bs)) property_values (properties_fit bs bytes);
  semantics = made bs bytes 0x18 (method_semantics_row (metadata_of bs)) method_semantics_values (semantics_fit bs bytes);
  assemblies = made bs bytes 0x20 (assembly_row (metadata_of bs)) assembly_values (assemblies_fit bs bytes);
  assembly_refs = made bs bytes 0x23 (assembly_ref_row (metadata_of bs)) assembly_ref_values (assembly_refs_fit bs bytes);
  generic_params = made bs bytes 0x2a (generic_param_row (metadata_of bs)) generic_param_values (generic_params_fit bs bytes);
  users = below_units (heap (metadata_of bs) UserStrings) (methods_of bs) (text_offsets (heap (metadata_of bs) UserStrings)) (heap_bytes (metadata_of bs) UserStrings (metadata_bytes bs bytes));
  subsystem = number_below 2 bs _ bytes (omega arith);
  one_module = length_rows (module_row (metadata_of bs)) (rows_of (tables_stream (metadata_of bs)) 0x00) ∙ (singles bs has.meets).0;
  one_assembly = length_rows (assembly_row (metadata_of bs)) (rows_of (tables_stream (metadata_of bs)) 0x20) ∙ (singles bs has.meets).1;
}

pub file_fits : (rec : AsmRec) → IsOfFile rec → FileFits rec
file_fits rec file = subst FileFits (sym file.has.is) (read_fits file.file rec file.bytes file.has)
