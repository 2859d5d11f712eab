-- A small world for examples. The input has the types C, and G with a parameter that has the `new()` constraint. The core library has
-- System.Type with GetMethod and GetType.
use Rattle.std.specs.Prelude.{ℕ, List, [], ◌∷◌, codes, ◌==◌, ◌&&◌, ◌||◌, Bool, false, true, Option, Some, None}
use Rattle.il_base.specs.declared.ids.TypeId.{TypeId}
use Rattle.il_base.specs.declared.ids.MethodId.{MethodId}
use Rattle.il_base.specs.declared.body.Body.{Body}
use Rattle.il_base.specs.declared.element.TheConstants as element
use Rattle.il_base.specs.declared.sig.Sig as sig
use Rattle.il_base.specs.declared.generic_flags.TheConstants.{DEFAULT_CONSTRUCTOR_CONSTRAINT}
use Rattle.il_base.specs.declared.world_model.known.Known.TheVariants.{Good}
use Rattle.il_base.specs.declared.world_model.types.TypeDefRow.{TypeDefRow}
use Rattle.il_base.specs.declared.world_model.types.GenericParamRow.{GenericParamRow}
use Rattle.il_base.specs.declared.world_model.members.MethodDefRow.{MethodDefRow}
use Rattle.il_base.specs.declared.world_model.record.AsmRec.{AsmRec}
use Rattle.rules.specs.declared.flow_rules.called.Called.{Called}
use Rattle.rules.specs.flow_rules.Methods.{Setting}
use Rattle.rules.specs.site_rules.Values.{Flowed}

-- ---- rows

abbrev pub empty : AsmRec
empty = record {
  bits = 1;
  subsystem = 3;
  entry = 0;
  descriptor = None;
  «module» = [];
  type_ref = [];
  type_def = [];
  field = [];
  method_def = [];
  param = [];
  interface_impl = [];
  member_ref = [];
  constant = [];
  custom_attribute = [];
  field_marshal = [];
  decl_security = [];
  class_layout = [];
  field_layout = [];
  stand_alone_sig = [];
  event_map = [];
  event = [];
  property_map = [];
  property = [];
  method_semantics = [];
  method_impl = [];
  module_ref = [];
  type_spec = [];
  impl_map = [];
  field_rva = [];
  assembly = [];
  assembly_processor = [];
  assembly_os = [];
  assembly_ref = [];
  assembly_ref_processor = [];
  assembly_ref_os = [];
  file = [];
  exported_type = [];
  manifest_resource = [];
  nested_class = [];
  generic_param = [];
  method_spec = [];
  generic_param_constraint = [];
  user = [];
}

abbrev pub type_row : List ℕ → List ℕ → ℕ → ℕ → TypeDefRow
type_row namespace name method method_end = record {
  flags = 0;
  name = name;
  namespace = namespace;
  extends = 0;
  field_list_first = 1;
  field_list_end = 1;
  method_list_first = method;
  method_list_end = method_end;
}

abbrev pub method_row : List ℕ → MethodDefRow
method_row name = record {
  rva = 0;
  impl_flags = 0;
  flags = 0;
  name = name;
  signature = Good (record { this = false; generic = 0; ret = sig.Prim element.VOID; params = [] });
  body = None;
  bad_at = 0;
  param_list_first = 1;
  param_list_end = 1;
}

-- the parameter of the second type
abbrev pub new_param : GenericParamRow
new_param = record { number = 0; flags = DEFAULT_CONSTRUCTOR_CONSTRAINT; owner = 0x02000002; name = codes "T" }

abbrev pub input : AsmRec
input = record empty {
  type_def = type_row [] (codes "C") 1 2 ∷ type_row [] (codes "G") 2 2 ∷ [];
  method_def = method_row (codes "M") ∷ [];
  generic_param = new_param ∷ [];
}

abbrev pub core : AsmRec
core = record empty {
  type_def = type_row (codes "System") (codes "Type") 1 3 ∷ [];
  method_def = method_row (codes "GetMethod") ∷ method_row (codes "GetType") ∷ [];
}

abbrev pub sample : List AsmRec
sample = input ∷ core ∷ []

-- ---- ids

abbrev pub c : TypeId
c = record { 0 = 0 }

abbrev pub g : TypeId
g = record { 0 = 1 }

abbrev pub m : MethodId
m = record { 0 = 0 }

abbrev pub get_method : MethodId
get_method = record { 0 = 1 }

abbrev pub get_type : MethodId
get_type = record { 0 = 2 }

-- ---- a body that passes its parameter on

abbrev pub no_code : Body
no_code = record { tiny = true; init = false; max_stack = 8; locals = 0; code = []; fat_handlers = false; handlers = [] }

abbrev pub setting : Setting
setting = record { asm = 0; rec = input; own = record { this = false; params = 1; returns = false }; locals = 0; body = no_code }

-- Its sources are null, anything and the parameter. The first value on the stack is the parameter, the second one is null.
abbrev pub carried : ℕ → ℕ → ℕ → Bool
carried at slot k = slot == 1 && k == 2 || slot == 2 && k == 0

-- C.M where the stack has this depth
abbrev pub flowed : Option ℕ → Flowed
flowed depth = record { recs = sample; method = m; at = record { asm = 0; row = 0 }; owner = Some c; setting = setting; depth = λ at. depth; has = carried }

-- `GetMethod(string)` of a type
abbrev pub one_name : Called
one_name = record { this = true; params = 1; returns = true }

-- `GetType(string, bool)`
abbrev pub name_and_flag : Called
name_and_flag = record { this = false; params = 2; returns = true }
