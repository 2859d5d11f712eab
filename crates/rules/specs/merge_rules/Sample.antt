-- Two small inputs for examples. A has P with F and Main; B has another P with a field and M, and Q, which A.Main makes nothing of.
-- The core library has Object alone.
use Rattle.std.specs.Prelude.{ℕ, List, [], ◌∷◌, codes, ◌==◌, ◌||◌, false, true, Some, None}
use Rattle.il_base.specs.declared.ids.Item.TheVariants as item
use Rattle.il_base.specs.declared.element.TheConstants as element
use Rattle.il_base.specs.declared.opcode.TheConstants as opcode
use Rattle.il_base.specs.declared.method_flags.TheConstants.{STATIC}
use Rattle.il_base.specs.declared.sig.Sig as sig
use Rattle.il_base.specs.declared.body.Form.TheVariants as form
use Rattle.il_base.specs.declared.body.Operand.TheVariants as operand
use Rattle.il_base.specs.declared.body.Instr.{Instr}
use Rattle.il_base.specs.declared.body.Body.{Body}
use Rattle.il_base.specs.declared.world_model.known.Known.TheVariants.{Good}
use Rattle.il_base.specs.declared.world_model.types.TypeDefRow.{TypeDefRow}
use Rattle.il_base.specs.declared.world_model.types.TypeRefRow.{TypeRefRow}
use Rattle.il_base.specs.declared.world_model.members.MethodDefRow.{MethodDefRow}
use Rattle.il_base.specs.declared.world_model.members.FieldRow.{FieldRow}
use Rattle.il_base.specs.declared.world_model.assemblies.AssemblyRow.{AssemblyRow}
use Rattle.il_base.specs.declared.world_model.assemblies.AssemblyRefRow.{AssemblyRefRow}
use Rattle.il_base.specs.declared.world_model.record.AsmRec.{AsmRec}
use Rattle.rules.specs.merge_rules.Numbers.{Kept}

-- ---- rows

abbrev pub empty : AsmRec
empty = record {
  bits = 1;
  subsystem = 3;
  entry = 0;
  descriptor = None;
  «module» = [];
  type_ref = [];
  type_def = [];
  field = [];
  method_def = [];
  param = [];
  interface_impl = [];
  member_ref = [];
  constant = [];
  custom_attribute = [];
  field_marshal = [];
  decl_security = [];
  class_layout = [];
  field_layout = [];
  stand_alone_sig = [];
  event_map = [];
  event = [];
  property_map = [];
  property = [];
  method_semantics = [];
  method_impl = [];
  module_ref = [];
  type_spec = [];
  impl_map = [];
  field_rva = [];
  assembly = [];
  assembly_processor = [];
  assembly_os = [];
  assembly_ref = [];
  assembly_ref_processor = [];
  assembly_ref_os = [];
  file = [];
  exported_type = [];
  manifest_resource = [];
  nested_class = [];
  generic_param = [];
  method_spec = [];
  generic_param_constraint = [];
  user = [];
}

abbrev pub assembly_row : List ℕ → AssemblyRow
assembly_row name = record {
  hash_alg_id = 0;
  major_version = 1;
  minor_version = 0;
  build_number = 0;
  revision_number = 0;
  flags = 0;
  public_key = [];
  name = name;
  culture = [];
}

abbrev pub runtime_ref : AssemblyRefRow
runtime_ref = record {
  major_version = 8;
  minor_version = 0;
  build_number = 0;
  revision_number = 0;
  flags = 0;
  public_key_or_token = [];
  name = codes "System.Runtime";
  culture = [];
  hash_value = [];
}

-- the TypeRef row of Object, in System.Runtime, the first AssemblyRef row
abbrev pub object_ref : TypeRefRow
object_ref = record { resolution_scope = 0x23000001; name = codes "Object"; namespace = codes "System" }

-- a class that extends the type of a token; fields and methods begin and end at these rows
abbrev pub class_row : List ℕ → ℕ → ℕ → ℕ → ℕ → ℕ → TypeDefRow
class_row name extends field field_end method method_end = record {
  flags = 0;
  name = name;
  namespace = [];
  extends = extends;
  field_list_first = field;
  field_list_end = field_end;
  method_list_first = method;
  method_list_end = method_end;
}

abbrev pub code : ℕ → List Instr → Body
code locals instrs = record { tiny = true; init = false; max_stack = 8; locals = locals; code = instrs; fat_handlers = false; handlers = [] }

abbrev pub ret : ℕ → Instr
ret at = record { at = at; form = form.Ret; opcode = opcode.RET; operand = operand.None }

abbrev pub call : ℕ → ℕ → Instr
call at token = record { at = at; form = form.Call; opcode = opcode.CALL; operand = operand.Token token }

-- a static method without parameters that returns nothing
abbrev pub method_row : List ℕ → ℕ → List Instr → MethodDefRow
method_row name rva instrs = record {
  rva = rva;
  impl_flags = 0;
  flags = STATIC;
  name = name;
  signature = Good (record { this = false; generic = 0; ret = sig.Prim element.VOID; params = [] });
  param_list_first = 1;
  param_list_end = 1;
  body = Some (Good (code 0 instrs));
  bad_at = 0;
}

abbrev pub int_field : List ℕ → FieldRow
int_field name = record { flags = 0; name = name; signature = Good (sig.Prim element.I4) }

-- ---- the assemblies

abbrev pub app : AsmRec
app = record empty {
  entry = 0x06000002;
  type_ref = object_ref ∷ [];
  type_def = class_row (codes "<Module>") 0 1 1 1 1 ∷ class_row (codes "P") 0x01000001 1 1 1 3 ∷ [];
  method_def = method_row (codes "F") 0x2050 (ret 0 ∷ []) ∷ method_row (codes "Main") 0x2054 (call 0 0x06000002 ∷ ret 5 ∷ []) ∷ [];
  assembly = assembly_row (codes "A") ∷ [];
  assembly_ref = runtime_ref ∷ [];
}

abbrev pub lib : AsmRec
lib = record empty {
  type_ref = object_ref ∷ [];
  type_def = class_row (codes "Q") 0x01000001 1 2 1 1 ∷ class_row (codes "P") 0x02000001 2 3 1 2 ∷ [];
  field = int_field (codes "x") ∷ int_field (codes "y") ∷ [];
  method_def = method_row (codes "M") 0x2050 (call 0 0x06000001 ∷ ret 5 ∷ []) ∷ [];
  assembly = assembly_row (codes "B") ∷ [];
  assembly_ref = runtime_ref ∷ [];
}

abbrev pub core : AsmRec
core = record empty { type_def = record (class_row (codes "Object") 0 1 1 1 1) { namespace = codes "System" } ∷ [] }

abbrev pub recs : List AsmRec
recs = app ∷ lib ∷ core ∷ []

-- the kept items: all but F and Q.x
abbrev pub kept : Kept
kept (item.Method m) = m.0 == 1 || m.0 == 2
kept (item.Field f) = f.0 == 1
kept (item.Typ t) = true
kept _ = false
