-- Methods whose type is known.
use Rattle.std.specs.Prelude.{List, codes, bit_and, Option, Some, None, if◌then◌else◌}
use Rattle.std.specs.Option.{option_map}
use Rattle.il_base.specs.declared.outside.TheConstants.{PLATFORM, INTERFACE_BODY, GLOBAL_MEMBER}
use Rattle.il_base.specs.declared.world_model.known.Known.{Known}
use Rattle.il_base.specs.declared.world_model.known.Known.TheVariants.{Bad}
use Rattle.il_base.specs.declared.world_model.known.BadKind.TheVariants.{Outside}
use Rattle.il_base.specs.declared.world_model.members.MethodDefRow.{MethodDefRow}
use Rattle.il_base.specs.declared.world_model.record.AsmRec.{AsmRec}
use Rattle.il_base.specs.world_model.Core.{same_name}
use Rattle.il_base.specs.world_model.Worlds.{known_map, known_then, type_id}
use Rattle.rules.specs.declared.link_rules.row_at.RowAt.{RowAt}
use Rattle.rules.specs.link_rules.Signatures.{names_at, method_type}
use Rattle.rules.specs.mark_rules.BadItems.{is_global, is_platform}
use Rattle.il_base.specs.declared.cil_values.definition.Method.{Method}
use Rattle.il_base.specs.declared.cil_values.resolved.Code.{Code}
use Rattle.rules.specs.declared.view_rules.seen_flags.TheConstants.{METHOD}
use Rattle.rules.specs.view_rules.Methods.{signature_by, body_by, is_core_row}
use Rattle.cil_world.specs.world_methods.Outside.{is_bad_there}

-- `body_of` of a method in a type
abbrev pub body_in : List AsmRec → RowAt → AsmRec → Option RowAt → MethodDefRow → Option (Known Code)
body_in recs at rec owner m =
    if is_core_row recs at then None
    else if is_platform m then Some (Bad (Outside PLATFORM))
    else if is_bad_there recs owner m then Some (Bad (Outside INTERFACE_BODY))
    else if is_global recs owner then Some (Bad (Outside GLOBAL_MEMBER))
    else option_map (body_by recs at.asm rec) m.body

-- `method_by` of a method in a type
abbrev pub method_in : List AsmRec → RowAt → AsmRec → MethodDefRow → RowAt → Option RowAt → Method
method_in recs at rec m owner among = record {
  flags = bit_and m.flags METHOD;
  owner = (type_id recs owner.asm owner.row).0;
  constructor = same_name m.name (codes ".ctor");
  signature = known_map signature_by (known_then (method_type (names_at recs at.asm rec)) m.signature);
  body = body_in recs at rec among m;
}
