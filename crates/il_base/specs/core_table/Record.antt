-- The core library as a record (II.22): the rows of its types and members. Its methods have no bodies, and no other
-- table than Module, TypeDef, Field, MethodDef and Assembly has rows. A generic method has its parameters in its signature alone.
use Rattle.std.specs.Prelude.{ℕ, ◌+◌, List, [], ◌∷◌, ◌++◌, length, map, codes, Bool, true, false, not, None}
use Rattle.il_base.specs.declared.sig.Sig.{Sig}
use Rattle.il_base.specs.declared.method_flags.TheConstants.{STATIC}
use Rattle.il_base.specs.Flags.{has_flag}
use Rattle.il_base.specs.declared.sig.Sig.TheVariants.{Prim, Named, Array, MVar}
use Rattle.il_base.specs.declared.sig.MethodSig.{MethodSig}
use Rattle.il_base.specs.declared.world_model.known.Known.TheVariants.{Good}
use Rattle.il_base.specs.declared.world_model.assemblies.AssemblyRow.{AssemblyRow}
use Rattle.il_base.specs.declared.world_model.members.FieldRow.{FieldRow}
use Rattle.il_base.specs.declared.world_model.members.MethodDefRow.{MethodDefRow}
use Rattle.il_base.specs.declared.world_model.types.ModuleRow.{ModuleRow}
use Rattle.il_base.specs.declared.world_model.types.TypeDefRow.{TypeDefRow}
use Rattle.il_base.specs.declared.world_model.record.AsmRec.{AsmRec}
use Rattle.il_base.specs.declared.core_table.shape.CoreField.{CoreField}
use Rattle.il_base.specs.declared.core_table.shape.CoreMethod.{CoreMethod}
use Rattle.il_base.specs.declared.core_table.shape.CoreParams.{CoreParams}
use Rattle.il_base.specs.declared.core_table.shape.CoreParams.TheVariants.{Zero, One, Two, Three, Four}
use Rattle.il_base.specs.declared.core_table.shape.CoreSig.{CoreSig}
use Rattle.il_base.specs.declared.core_table.shape.CoreSig.TheVariants as core
use Rattle.il_base.specs.declared.core_table.shape.CoreType.{CoreType}
use Rattle.il_base.specs.declared.core_table.types.TheConstants.{TYPES}
use Rattle.il_base.specs.core_table.Names.{text_of}
use Rattle.il_base.specs.core_table.Members.{fields_of, methods_of}

-- ---- signatures (II.23.2)

abbrev pub sig_of : CoreSig → Sig
sig_of (core.Prim code) = Prim code
sig_of (core.Class token) = Named false token
sig_of (core.Value token) = Named true token
sig_of (core.Prims code) = Array (Prim code)
sig_of (core.Classes token) = Array (Named false token)
sig_of (core.MVar n) = MVar n

unfoldable pub params_of : CoreParams → List Sig
params_of Zero = []
params_of (One a) = sig_of a ∷ []
params_of (Two a b) = sig_of a ∷ sig_of b ∷ []
params_of (Three a b c) = sig_of a ∷ sig_of b ∷ sig_of c ∷ []
params_of (Four a b c d) = sig_of a ∷ sig_of b ∷ sig_of c ∷ sig_of d ∷ []

-- static, of a method's flags (II.23.1.10)
unfoldable pub is_static : ℕ → Bool
is_static flags = has_flag flags STATIC

-- A method that isn't static has HASTHIS, one with generic parameters GENERIC.
unfoldable pub signature_of : CoreMethod → MethodSig
signature_of m = record { this = not (is_static m.flags); generic = m.type_params; ret = sig_of m.ret; params = params_of m.params }

-- ---- rows of members (II.22.15, II.22.26)

unfoldable pub field_row : CoreField → FieldRow
field_row f = record { flags = f.flags; name = text_of f.name; signature = Good (sig_of f.signature) }

unfoldable pub method_row : CoreMethod → MethodDefRow
method_row m = record {
  rva = 0;
  impl_flags = 0;
  flags = m.flags;
  name = text_of m.name;
  signature = Good (signature_of m);
  param_list_first = 1;
  param_list_end = 1;
  body = None;
  bad_at = 0;
}

abbrev pub field_rows : List CoreField → List FieldRow
field_rows fs = map field_row fs

abbrev pub method_rows : List CoreMethod → List MethodDefRow
method_rows ms = map method_row ms

-- the members of the types, each type's after those of the types before it
unfoldable pub all_fields : List CoreType → List FieldRow
all_fields [] = []
all_fields (t ∷ ts) = field_rows (fields_of t.members) ++ all_fields ts

unfoldable pub all_methods : List CoreType → List MethodDefRow
all_methods [] = []
all_methods (t ∷ ts) = method_rows (methods_of t.members) ++ all_methods ts

-- ---- rows of types (II.22.37)

-- the row of a type whose fields and methods begin at these rows
unfoldable pub type_row : ℕ → ℕ → CoreType → TypeDefRow
type_row field method t = record {
  flags = t.flags;
  name = text_of t.name;
  namespace = text_of t.namespace;
  extends = t.extends;
  field_list_first = field;
  field_list_end = field + length (fields_of t.members);
  method_list_first = method;
  method_list_end = method + length (methods_of t.members);
}

unfoldable pub type_rows : ℕ → ℕ → List CoreType → List TypeDefRow
type_rows field method [] = []
type_rows field method (t ∷ ts) =
    type_row field method t
    ∷ type_rows (field + length (fields_of t.members)) (method + length (methods_of t.members)) ts

-- ---- the record

unfoldable pub module_row : ModuleRow
module_row = record { generation = 0; name = codes "System.Private.CoreLib.dll"; mvid = []; enc_id = []; enc_base_id = [] }

unfoldable pub assembly_row : AssemblyRow
assembly_row = record {
  hash_alg_id = 0;
  major_version = 0;
  minor_version = 0;
  build_number = 0;
  revision_number = 0;
  flags = 0;
  public_key = [];
  name = codes "System.Private.CoreLib";
  culture = [];
}

unfoldable pub record_with : List ModuleRow → List TypeDefRow → List FieldRow → List MethodDefRow → List AssemblyRow → AsmRec
record_with modules types fields methods assemblies = record {
  bits = 0;
  subsystem = 0;
  entry = 0;
  descriptor = None;
  «module» = modules;
  type_ref = [];
  type_def = types;
  field = fields;
  method_def = methods;
  param = [];
  interface_impl = [];
  member_ref = [];
  constant = [];
  custom_attribute = [];
  field_marshal = [];
  decl_security = [];
  class_layout = [];
  field_layout = [];
  stand_alone_sig = [];
  event_map = [];
  event = [];
  property_map = [];
  property = [];
  method_semantics = [];
  method_impl = [];
  module_ref = [];
  type_spec = [];
  impl_map = [];
  field_rva = [];
  assembly = assemblies;
  assembly_processor = [];
  assembly_os = [];
  assembly_ref = [];
  assembly_ref_processor = [];
  assembly_ref_os = [];
  file = [];
  exported_type = [];
  manifest_resource = [];
  nested_class = [];
  generic_param = [];
  method_spec = [];
  generic_param_constraint = [];
  user = [];
}

unfoldable pub core_record : AsmRec
core_record = record_with (module_row ∷ []) (type_rows 1 1 TYPES) (all_fields TYPES) (all_methods TYPES) (assembly_row ∷ [])
