-- A small input for examples, beside a core library of Object, ValueType and Enum: `Data` is a struct, `Holder` a class with a static
-- field of it that has bytes, `E1` an enum over int32, `E2` one over `E1`.
use Rattle.std.specs.Prelude.{ℕ, List, [], ◌∷◌, codes, None, true}
use Rattle.il_base.specs.declared.element.TheConstants as element
use Rattle.il_base.specs.declared.field_flags.TheConstants.{STATIC}
use Rattle.il_base.specs.declared.sig.Sig.{Sig}
use Rattle.il_base.specs.declared.sig.Sig as sig
use Rattle.il_base.specs.declared.world_model.known.Known.TheVariants.{Good}
use Rattle.il_base.specs.declared.world_model.types.TypeDefRow.{TypeDefRow}
use Rattle.il_base.specs.declared.world_model.types.TypeRefRow.{TypeRefRow}
use Rattle.il_base.specs.declared.world_model.members.FieldRow.{FieldRow}
use Rattle.il_base.specs.declared.world_model.assemblies.AssemblyRefRow.{AssemblyRefRow}
use Rattle.il_base.specs.declared.world_model.record.AsmRec.{AsmRec}

-- ---- rows

abbrev pub empty : AsmRec
empty = record {
  bits = 1;
  subsystem = 3;
  entry = 0;
  descriptor = None;
  «module» = [];
  type_ref = [];
  type_def = [];
  field = [];
  method_def = [];
  param = [];
  interface_impl = [];
  member_ref = [];
  constant = [];
  custom_attribute = [];
  field_marshal = [];
  decl_security = [];
  class_layout = [];
  field_layout = [];
  stand_alone_sig = [];
  event_map = [];
  event = [];
  property_map = [];
  property = [];
  method_semantics = [];
  method_impl = [];
  module_ref = [];
  type_spec = [];
  impl_map = [];
  field_rva = [];
  assembly = [];
  assembly_processor = [];
  assembly_os = [];
  assembly_ref = [];
  assembly_ref_processor = [];
  assembly_ref_os = [];
  file = [];
  exported_type = [];
  manifest_resource = [];
  nested_class = [];
  generic_param = [];
  method_spec = [];
  generic_param_constraint = [];
  user = [];
}

abbrev pub runtime_ref : AssemblyRefRow
runtime_ref = record {
  major_version = 8;
  minor_version = 0;
  build_number = 0;
  revision_number = 0;
  flags = 0;
  public_key_or_token = [];
  name = codes "System.Runtime";
  culture = [];
  hash_value = [];
}

-- a TypeRef row of the namespace System, in the first AssemblyRef row
abbrev pub system_ref : List ℕ → TypeRefRow
system_ref name = record { resolution_scope = 0x23000001; name = name; namespace = codes "System" }

-- a type of a namespace that extends the type of a token; its fields begin and end at these rows
abbrev pub type_row : List ℕ → List ℕ → ℕ → ℕ → ℕ → TypeDefRow
type_row namespace name extends field field_end = record {
  flags = 0;
  name = name;
  namespace = namespace;
  extends = extends;
  field_list_first = field;
  field_list_end = field_end;
  method_list_first = 1;
  method_list_end = 1;
}

abbrev pub field_row : List ℕ → ℕ → Sig → FieldRow
field_row name flags s = record { flags = flags; name = name; signature = Good s }

abbrev pub app : AsmRec
app = record empty {
  assembly_ref = runtime_ref ∷ [];
  type_ref = system_ref (codes "Object") ∷ system_ref (codes "ValueType") ∷ system_ref (codes "Enum") ∷ [];
  type_def =
      type_row [] (codes "Data") 0x01000002 1 1 ∷ type_row [] (codes "Holder") 0x01000001 1 3 ∷ type_row [] (codes "E1") 0x01000003 3 4
      ∷ type_row [] (codes "E2") 0x01000003 4 5 ∷ [];
  field =
      field_row (codes "data") STATIC (sig.Named true 0x02000001) ∷ field_row (codes "n") 0 (sig.Prim element.I4)
      ∷ field_row (codes "value__") 0 (sig.Prim element.I4) ∷ field_row (codes "value__") 0 (sig.Named true 0x02000003) ∷ [];
  field_rva = record { rva = 0; field = 0x04000001; bytes = Good (1 ∷ 2 ∷ 3 ∷ []) } ∷ [];
}

-- a core library whose rows have the places of the real one's
abbrev pub core : AsmRec
core = record empty {
  type_def =
      type_row [] (codes "<Module>") 0 1 1 ∷ type_row (codes "System") (codes "Object") 0 1 1
      ∷ type_row (codes "System") (codes "ValueType") 0x02000002 1 1 ∷ type_row (codes "System") (codes "Enum") 0x02000003 1 1 ∷ [];
}

abbrev pub recs : List AsmRec
recs = app ∷ core ∷ []
