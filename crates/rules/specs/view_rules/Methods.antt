-- The answers of a world on methods, fields and type definitions, with the flags that a step needs.
use Rattle.std.specs.Prelude.{ℕ, suc, List, [], ◌∷◌, length, codes, Option, Some, None, slice_get, bit_and, ◌==◌, ◌&&◌, Bool, not, if◌then◌else◌}
use Rattle.std.specs.List.{list_any, flat_map}
use Rattle.std.specs.Option.{option_and_then, option_map}
use Rattle.il_base.specs.declared.body.Body.{Body}
use Rattle.il_base.specs.declared.outside.TheConstants.{PLATFORM, INTERFACE_BODY, GLOBAL_MEMBER, LAYOUT}
use Rattle.il_base.specs.declared.table.TheConstants.{FIELD}
use Rattle.il_base.specs.declared.type_flags.TheConstants.{EXPLICIT_LAYOUT}
use Rattle.il_base.specs.Flags.{has_flag}
use Rattle.il_base.specs.declared.world_model.known.Known.{Known}
use Rattle.il_base.specs.declared.world_model.known.Known.TheVariants.{Bad}
use Rattle.il_base.specs.declared.world_model.known.BadKind.TheVariants.{Outside}
use Rattle.il_base.specs.declared.world_model.expr.TypeExpr.{TypeExpr}
use Rattle.il_base.specs.declared.world_model.types.TypeDefRow.{TypeDefRow}
use Rattle.il_base.specs.declared.world_model.members.FieldRow.{FieldRow}
use Rattle.il_base.specs.declared.world_model.members.MethodDefRow.{MethodDefRow}
use Rattle.il_base.specs.declared.world_model.extras.FieldRvaRow.{FieldRvaRow}
use Rattle.il_base.specs.declared.world_model.record.AsmRec.{AsmRec}
use Rattle.il_base.specs.world_model.Tokens.{token_of}
use Rattle.il_base.specs.world_model.Core.{same_name}
use Rattle.il_base.specs.world_model.Worlds.{known_map, known_then, sig_expr, type_id}
use Rattle.rules.specs.declared.link_rules.row_at.RowAt.{RowAt}
use Rattle.rules.specs.declared.link_rules.member_type.MethodType.{MethodType}
use Rattle.rules.specs.link_rules.Types.{at_row}
use Rattle.rules.specs.link_rules.Signatures.{names_at, method_type}
use Rattle.rules.specs.link_rules.Members.{home_from, type_home, methods_in, fields_in, param_count}
use Rattle.rules.specs.link_rules.Cycles.{listed, is_static_field}
use Rattle.rules.specs.type_rules.Slots.{type_of_method}
use Rattle.rules.specs.type_rules.Rows.{rec_at, type_row_at, owner_of_field}
use Rattle.rules.specs.mark_rules.BadItems.{is_global, is_platform, is_interface_body}
use Rattle.il_base.specs.declared.cil_values.definition.Signature.{Signature}
use Rattle.il_base.specs.declared.cil_values.definition.Method.{Method}
use Rattle.il_base.specs.declared.cil_values.definition.FieldDef.{FieldDef}
use Rattle.il_base.specs.declared.cil_values.definition.Head.{Head}
use Rattle.il_base.specs.declared.cil_values.definition.First.{First}
use Rattle.il_base.specs.declared.cil_values.resolved.Code.{Code}
use Rattle.il_base.specs.declared.cil_values.definition.First.TheVariants.{Blank as blank, Bytes as bytes, EmptyText as empty_text}
use Rattle.rules.specs.declared.view_rules.seen_flags.TheConstants as seen
use Rattle.rules.specs.view_rules.Code.{code_of}

-- ---- methods

abbrev pub signature_by : MethodType → Signature
signature_by m = record { this = m.this; own = m.generic; params = m.params; ret = m.ret }

abbrev pub body_by : List AsmRec → ℕ → AsmRec → Known Body → Known Code
body_by recs a rec b = known_map (code_of recs a rec) b

-- whether a row is the core library's: its methods have no bodies, and `CoreCall` says what they do
abbrev pub is_core_row : List AsmRec → RowAt → Bool
is_core_row recs at = suc at.asm == length recs

-- a platform call, a method of an interface that is static or has a body, and a global method count as methods with a bad body
abbrev pub body_of : List AsmRec → RowAt → AsmRec → MethodDefRow → Option (Known Code)
body_of recs at rec m =
    if is_core_row recs at then None
    else if is_platform m then Some (Bad (Outside PLATFORM))
    else if is_interface_body recs at m then Some (Bad (Outside INTERFACE_BODY))
    else if is_global recs (type_of_method recs at) then Some (Bad (Outside GLOBAL_MEMBER))
    else option_map (body_by recs at.asm rec) m.body

abbrev pub method_by : List AsmRec → RowAt → AsmRec → MethodDefRow → RowAt → Method
method_by recs at rec m owner = record {
  flags = bit_and m.flags seen.METHOD;
  owner = (type_id recs owner.asm owner.row).0;
  constructor = same_name m.name (codes ".ctor");
  signature = known_map signature_by (known_then (method_type (names_at recs at.asm rec)) m.signature);
  body = body_of recs at rec m;
}

abbrev pub method_at : List AsmRec → RowAt → Option Method
method_at recs at =
    option_and_then (λ (rec : AsmRec). option_and_then (λ (m : MethodDefRow). option_map (method_by recs at rec m) (type_of_method recs at)) (slice_get rec.method_def at.row)) (rec_at recs at)

-- a method; None for one that no type's run has
unfoldable pub method_query : List AsmRec → ℕ → Option Method
method_query recs m = option_and_then (method_at recs) (home_from methods_in 0 recs m)

-- ---- fields

abbrev pub has_explicit_layout : List AsmRec → Option RowAt → Bool
has_explicit_layout recs owner = list_any (λ t. list_any (λ (row : TypeDefRow). has_flag row.flags EXPLICIT_LAYOUT) (listed (type_row_at recs t))) (listed owner)

-- a global field, and an instance field of a type with explicit layout, count as bad
abbrev pub field_type : List AsmRec → RowAt → AsmRec → Option RowAt → FieldRow → Known TypeExpr
field_type recs at rec owner f =
    if is_global recs owner then Bad (Outside GLOBAL_MEMBER)
    else if not (is_static_field f) && has_explicit_layout recs owner then Bad (Outside LAYOUT)
    else known_then (sig_expr (names_at recs at.asm rec)) f.signature

abbrev pub bytes_by : ℕ → FieldRvaRow → List (Known (List ℕ))
bytes_by token row = if row.field == token then row.bytes ∷ [] else []

abbrev pub first_bytes : List (Known (List ℕ)) → First
first_bytes [] = blank
first_bytes (b ∷ bs) = bytes b

-- String.Empty, the one field of the core library, begins with the empty text; a global field counts as bad; any other field has
-- the bytes of its first row (II.22.18), whatever its type is
abbrev pub first_of : List AsmRec → RowAt → AsmRec → Option RowAt → First
first_of recs at rec owner =
    if is_core_row recs at then empty_text
    else if is_global recs owner then bytes (Bad (Outside GLOBAL_MEMBER))
    else first_bytes (flat_map (bytes_by (token_of FIELD (suc at.row))) rec.field_rva)

abbrev pub field_owner : RowAt → AsmRec → Option RowAt
field_owner at rec = option_map (at_row at.asm) (owner_of_field rec at.row)

abbrev pub field_by : List AsmRec → RowAt → AsmRec → FieldRow → FieldDef
field_by recs at rec f =
    record { flags = bit_and f.flags seen.FIELD; typ = field_type recs at rec (field_owner at rec) f; first = first_of recs at rec (field_owner at rec) }

abbrev pub field_at : List AsmRec → RowAt → Option FieldDef
field_at recs at = option_and_then (λ (rec : AsmRec). option_map (field_by recs at rec) (slice_get rec.field at.row)) (rec_at recs at)

unfoldable pub field_query : List AsmRec → ℕ → Option FieldDef
field_query recs f = option_and_then (field_at recs) (home_from fields_in 0 recs f)

-- ---- type definitions

abbrev pub head_at : List AsmRec → RowAt → Option Head
head_at recs at =
    option_and_then (λ (rec : AsmRec). option_map (λ (t : TypeDefRow). record { flags = bit_and t.flags seen.TYPE; params = param_count rec at.row }) (slice_get rec.type_def at.row)) (rec_at recs at)

unfoldable pub head_query : List AsmRec → ℕ → Option Head
head_query recs t = option_and_then (head_at recs) (type_home recs (record { 0 = t }))
