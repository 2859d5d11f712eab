-- The record that a merge leaves of several inputs: the rows of kept items, the rows that go with them, and the references that
-- they make.
use Rattle.std.specs.Prelude.{ℕ, ◌+◌, ◌-◌, ◌%◌, List, [], ◌∷◌, ◌++◌, length, map, bit_and, Option, None, slice_get, Bool, if◌then◌else◌}
use Rattle.std.specs.List.{list_any, flat_map}
use Rattle.std.specs.Option.{option_map}
use Rattle.il_base.specs.declared.ids.Item.{Item}
use Rattle.il_base.specs.declared.body.Body.{Body}
use Rattle.il_base.specs.declared.cli_format.column.CodedIndex.TheVariants.{HasConstant, HasSemantics}
use Rattle.il_base.specs.cli_format.Tokens.{coded_of}
use Rattle.il_base.specs.declared.world_model.known.Known.{Known}
use Rattle.il_base.specs.declared.world_model.known.Known.TheVariants.{Good, Bad}
use Rattle.il_base.specs.declared.world_model.types.InterfaceImplRow.{InterfaceImplRow}
use Rattle.il_base.specs.declared.world_model.types.NestedClassRow.{NestedClassRow}
use Rattle.il_base.specs.declared.world_model.types.ClassLayoutRow.{ClassLayoutRow}
use Rattle.il_base.specs.declared.world_model.types.GenericParamRow.{GenericParamRow}
use Rattle.il_base.specs.declared.world_model.types.GenericParamConstraintRow.{GenericParamConstraintRow}
use Rattle.il_base.specs.declared.world_model.members.MethodDefRow.{MethodDefRow}
use Rattle.il_base.specs.declared.world_model.members.PropertyMapRow.{PropertyMapRow}
use Rattle.il_base.specs.declared.world_model.members.EventMapRow.{EventMapRow}
use Rattle.il_base.specs.declared.world_model.members.MethodSemanticsRow.{MethodSemanticsRow}
use Rattle.il_base.specs.declared.world_model.members.MethodImplRow.{MethodImplRow}
use Rattle.il_base.specs.declared.world_model.extras.ConstantRow.{ConstantRow}
use Rattle.il_base.specs.declared.world_model.extras.CustomAttributeRow.{CustomAttributeRow}
use Rattle.il_base.specs.declared.world_model.extras.FieldRvaRow.{FieldRvaRow}
use Rattle.il_base.specs.declared.world_model.assemblies.AssemblyRow.{AssemblyRow}
use Rattle.il_base.specs.declared.world_model.record.UserText.{UserText}
use Rattle.il_base.specs.declared.world_model.record.AsmRec.{AsmRec}
use Rattle.rules.specs.file_layout.Bytes.{aligned}
use Rattle.rules.specs.file_layout.Image.{code_rva}
use Rattle.rules.specs.file_layout.Bodies.{code_behind, rvas_behind}
use Rattle.rules.specs.declared.link_rules.row_at.RowAt.{RowAt}
use Rattle.rules.specs.link_rules.Types.{at_row}
use Rattle.rules.specs.link_rules.Cycles.{listed}
use Rattle.rules.specs.type_rules.Rows.{rec_at, run_places}
use Rattle.rules.specs.mark_rules.Places.{prop_item, event_item}
use Rattle.rules.specs.merge_rules.Numbers.{Kept, kept_types, kept_methods, kept_fields, kept_properties, kept_events}
use Rattle.rules.specs.merge_rules.Sorted.{by_key}
use Rattle.rules.specs.merge_rules.Keys.{method_key}
use Rattle.rules.specs.merge_rules.Order.{is_kept_method, met_by_types}
use Rattle.rules.specs.merge_rules.Refs.{Output, type_ref_rows, type_spec_rows, member_ref_rows, method_spec_rows, locals_rows, assembly_refs, method_token}
use Rattle.rules.specs.merge_rules.Rows.{SortedRow, all_rows, run_at, class_token, kept_params, kept_interfaces, kept_generic_params, kept_constraints, kept_row_token}
use Rattle.rules.specs.merge_rules.Attributes.{Attribute, kept_attributes, met_by_attributes}
use Rattle.rules.specs.merge_rules.Moved.{moved_type, moved_callee, kept_texts, text_token, moved_type_row, moved_field_row, moved_method_row, moved_param_row, moved_property_row, moved_event_row}

-- ---- rows by their places

-- a function applied to the row at each of these places
abbrev pub each_at : {R B : Type 0} → List AsmRec → (AsmRec → List R) → (RowAt → AsmRec → R → B) → List RowAt → List B
each_at recs rows f places =
    flat_map (λ (at : RowAt). flat_map (λ (rec : AsmRec). map (f at rec) (listed (slice_get (rows rec) at.row))) (listed (rec_at recs at))) places

abbrev pub each_sorted : {R B : Type 0} → List AsmRec → (AsmRec → List R) → (ℕ → ℕ → AsmRec → R → B) → List SortedRow → List B
each_sorted recs rows f sorted =
    flat_map (λ (x : SortedRow). each_at recs rows (λ at rec row. f x.owner at.asm rec row) (x.at ∷ [])) sorted

-- ---- addresses

-- bodies in the order of methods (II.25.4)
abbrev pub put_rva : ℕ → MethodDefRow → MethodDefRow
put_rva rva m = record m { rva = rva }

unfoldable pub with_rvas : List ℕ → List MethodDefRow → List MethodDefRow
with_rvas [] ms = []
with_rvas (rva ∷ rvas) [] = []
with_rvas (rva ∷ rvas) (m ∷ ms) = put_rva rva m ∷ with_rvas rvas ms

abbrev pub bodies_of : List MethodDefRow → List (Option (Known Body))
bodies_of ms = map (λ (m : MethodDefRow). m.body) ms

abbrev pub placed_methods : List MethodDefRow → List MethodDefRow
placed_methods ms = with_rvas (rvas_behind [] (bodies_of ms)) ms

-- bytes of fields after them, each at a multiple of 8 (II.22.18)
abbrev pub bytes_length : Known (List ℕ) → ℕ
bytes_length (Good bytes) = length bytes
bytes_length (Bad why) = 0

unfoldable pub placed_bytes : ℕ → List FieldRvaRow → List FieldRvaRow
placed_bytes before [] = []
placed_bytes before (row ∷ rows) =
    record row { rva = (code_rva + aligned 8 before) % 4294967296 } ∷ placed_bytes (aligned 8 before + bytes_length row.bytes) rows

-- ---- rows that go with kept items, sorted by their new keys

abbrev pub new_constant : Output → ℕ → AsmRec → ℕ → ConstantRow → List ConstantRow
new_constant o a rec k row = map (λ parent. record row { parent = parent }) (listed (kept_row_token o.recs o.kept a row.parent))

abbrev pub constants : Output → List ConstantRow
constants o = by_key (λ (row : ConstantRow). coded_of HasConstant row.parent) (all_rows (λ rec. rec.constant) (new_constant o) o.recs)

abbrev pub new_layout : Output → ℕ → AsmRec → ℕ → ClassLayoutRow → List ClassLayoutRow
new_layout o a rec k row = map (λ parent. record row { parent = parent }) (listed (kept_row_token o.recs o.kept a row.parent))

abbrev pub class_layouts : Output → List ClassLayoutRow
class_layouts o = by_key (λ (row : ClassLayoutRow). row.parent) (all_rows (λ rec. rec.class_layout) (new_layout o) o.recs)

abbrev pub new_field_rva : Output → ℕ → AsmRec → ℕ → FieldRvaRow → List FieldRvaRow
new_field_rva o a rec k row = map (λ field. record row { field = field }) (listed (kept_row_token o.recs o.kept a row.field))

abbrev pub field_rvas : Output → ℕ → List FieldRvaRow
field_rvas o before = placed_bytes before (by_key (λ (row : FieldRvaRow). row.field) (all_rows (λ rec. rec.field_rva) (new_field_rva o) o.recs))

abbrev pub nested_in : ℕ → ℕ → NestedClassRow
nested_in nested enclosing = record { nested_class = nested; enclosing_class = enclosing }

abbrev pub new_nested : Output → ℕ → AsmRec → ℕ → NestedClassRow → List NestedClassRow
new_nested o a rec k row =
    flat_map (λ nested. map (nested_in nested) (listed (kept_row_token o.recs o.kept a row.enclosing_class))) (listed (kept_row_token o.recs o.kept a row.nested_class))

abbrev pub nested_classes : Output → List NestedClassRow
nested_classes o = by_key (λ (row : NestedClassRow). row.nested_class) (all_rows (λ rec. rec.nested_class) (new_nested o) o.recs)

abbrev pub new_impl : Output → ℕ → ℕ → AsmRec → InterfaceImplRow → InterfaceImplRow
new_impl o class a rec row = record { class = class; interface = moved_type o a rec row.interface }

abbrev pub new_generic_param : ℕ → ℕ → AsmRec → GenericParamRow → GenericParamRow
new_generic_param owner a rec row = record row { owner = owner }

abbrev pub new_constraint : Output → ℕ → ℕ → AsmRec → GenericParamConstraintRow → GenericParamConstraintRow
new_constraint o owner a rec row = record { owner = owner; constraint = moved_type o a rec row.constraint }

-- a MethodSemantics row with new tokens, written where the method and its property or event are kept
abbrev pub semantics_of : ℕ → ℕ → ℕ → MethodSemanticsRow
semantics_of semantics method association = record { semantics = semantics; method = method; association = association }

abbrev pub new_semantics : Output → ℕ → AsmRec → ℕ → MethodSemanticsRow → List MethodSemanticsRow
new_semantics o a rec k row =
    flat_map (λ method. map (semantics_of row.semantics method) (listed (kept_row_token o.recs o.kept a row.association))) (listed (kept_row_token o.recs o.kept a row.method))

abbrev pub method_semantics : Output → List MethodSemanticsRow
method_semantics o =
    by_key (λ (row : MethodSemanticsRow). coded_of HasSemantics row.association) (all_rows (λ rec. rec.method_semantics) (new_semantics o) o.recs)

-- a MethodImpl row with new tokens, written where the class is kept, and the body is kept or of the core library
abbrev pub impl_row : Output → ℕ → AsmRec → MethodImplRow → ℕ → MethodImplRow
impl_row o a rec row class = record { class = class; body = moved_callee o a rec row.body; declaration = moved_callee o a rec row.declaration }

abbrev pub has_kept_body : Output → ℕ → AsmRec → MethodImplRow → Bool
has_kept_body o a rec row = list_any (is_kept_method o.recs o.kept) (listed (method_key o.recs a rec row.body))

abbrev pub new_method_impl : Output → ℕ → AsmRec → ℕ → MethodImplRow → List MethodImplRow
new_method_impl o a rec k row =
    if has_kept_body o a rec row then map (impl_row o a rec row) (listed (class_token o.recs o.kept a row.class)) else []

abbrev pub method_impls : Output → List MethodImplRow
method_impls o = by_key (λ (row : MethodImplRow). row.class) (all_rows (λ rec. rec.method_impl) (new_method_impl o) o.recs)

abbrev pub attribute_row : Output → Attribute → CustomAttributeRow
attribute_row o x = record { parent = x.parent; ctor = method_token o x.ctor; value = x.value }

-- ---- maps (II.22.35, II.22.12): where the run keeps a row

abbrev pub keeps_some : Output → (RowAt → Item) → ℕ → List ℕ → Bool
keeps_some o item a places = list_any (λ k. o.kept (item (at_row a k))) places

abbrev pub property_map_row : Output → ℕ → PropertyMapRow → ℕ → PropertyMapRow
property_map_row o a row parent = record {
  parent = parent;
  property_list_first = run_at (kept_properties o.recs o.kept) a row.property_list_first;
  property_list_end = run_at (kept_properties o.recs o.kept) a row.property_list_end;
}

abbrev pub new_property_map : Output → ℕ → AsmRec → ℕ → PropertyMapRow → List PropertyMapRow
new_property_map o a rec k row =
    if keeps_some o (prop_item o.recs) a (run_places row.property_list_first row.property_list_end rec.property)
    then map (property_map_row o a row) (listed (class_token o.recs o.kept a row.parent)) else []

abbrev pub event_map_row : Output → ℕ → EventMapRow → ℕ → EventMapRow
event_map_row o a row parent = record {
  parent = parent;
  event_list_first = run_at (kept_events o.recs o.kept) a row.event_list_first;
  event_list_end = run_at (kept_events o.recs o.kept) a row.event_list_end;
}

abbrev pub new_event_map : Output → ℕ → AsmRec → ℕ → EventMapRow → List EventMapRow
new_event_map o a rec k row =
    if keeps_some o (event_item o.recs) a (run_places row.event_list_first row.event_list_end rec.event)
    then map (event_map_row o a row) (listed (class_token o.recs o.kept a row.parent)) else []

-- ---- the first input's own rows

-- the flags of the CLI header: ILONLY (1), and the input's 32BITREQUIRED (2) and 32BITPREFERRED (20000) (II.25.3.3.1)
abbrev pub kept_bits : ℕ → ℕ
kept_bits bits = 1 + bit_and bits 0x20002

-- the Assembly row without its key, and so without the flag PublicKey (1, II.23.1.2)
abbrev pub moved_assembly : AssemblyRow → AssemblyRow
moved_assembly row = record row { public_key = []; flags = row.flags - bit_and row.flags 1 }

abbrev pub new_text : Output → List ℕ → UserText
new_text o units = record { token = text_token o units; text = units }

-- ---- the record

abbrev pub restricted_by : Bool → Output → List MethodDefRow → AsmRec → AsmRec
restricted_by internalize o methods primary = record {
  bits = kept_bits primary.bits;
  subsystem = primary.subsystem;
  entry = moved_callee o 0 primary primary.entry;
  descriptor = None;
  «module» = primary.«module»;
  type_ref = type_ref_rows o;
  type_def = each_at o.recs (λ rec. rec.type_def) (moved_type_row internalize o) (kept_types o.recs o.kept);
  field = each_at o.recs (λ rec. rec.field) (moved_field_row o) (kept_fields o.recs o.kept);
  method_def = methods;
  param = each_at o.recs (λ rec. rec.param) (λ at rec row. moved_param_row row) (kept_params o.recs o.kept);
  interface_impl = each_sorted o.recs (λ rec. rec.interface_impl) (new_impl o) (kept_interfaces o.recs o.kept);
  member_ref = member_ref_rows o;
  constant = constants o;
  custom_attribute = map (attribute_row o) (kept_attributes o.recs o.kept);
  field_marshal = [];
  decl_security = [];
  class_layout = class_layouts o;
  field_layout = [];
  stand_alone_sig = locals_rows o;
  event_map = all_rows (λ rec. rec.event_map) (new_event_map o) o.recs;
  event = each_at o.recs (λ rec. rec.event) (moved_event_row o) (kept_events o.recs o.kept);
  property_map = all_rows (λ rec. rec.property_map) (new_property_map o) o.recs;
  property = each_at o.recs (λ rec. rec.property) (moved_property_row o) (kept_properties o.recs o.kept);
  method_semantics = method_semantics o;
  method_impl = method_impls o;
  module_ref = [];
  type_spec = type_spec_rows o;
  impl_map = [];
  field_rva = field_rvas o (length (code_behind [] (bodies_of methods)));
  assembly = map moved_assembly primary.assembly;
  assembly_processor = [];
  assembly_os = [];
  assembly_ref = assembly_refs o.recs o.mets;
  assembly_ref_processor = [];
  assembly_ref_os = [];
  file = [];
  exported_type = [];
  manifest_resource = [];
  nested_class = nested_classes o;
  generic_param = each_sorted o.recs (λ rec. rec.generic_param) new_generic_param (kept_generic_params o.recs o.kept);
  method_spec = method_spec_rows o;
  generic_param_constraint = each_sorted o.recs (λ rec. rec.generic_param_constraint) (new_constraint o) (kept_constraints o.recs o.kept);
  user = map (new_text o) (kept_texts o);
}

abbrev pub moved_methods : Output → List MethodDefRow
moved_methods o = each_at o.recs (λ rec. rec.method_def) (moved_method_row o) (kept_methods o.recs o.kept)

-- the output of a merge, with the references of types before those of attributes
unfoldable pub output_of : List AsmRec → Kept → Output
output_of recs kept = record { recs = recs; kept = kept; mets = met_by_types recs kept ++ met_by_attributes recs kept }

-- The record that is left of a world's assemblies, the first of which is the one that the output is named after; none where there
-- is no input.
unfoldable pub restricted : Bool → List AsmRec → Kept → Option AsmRec
restricted internalize recs kept =
    option_map (restricted_by internalize (output_of recs kept) (placed_methods (moved_methods (output_of recs kept)))) (slice_get recs 0)
