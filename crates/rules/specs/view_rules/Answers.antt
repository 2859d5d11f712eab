-- The answers of a linked world to the questions of the machine (`Queries`).
use Rattle.std.specs.Prelude.{ℕ, suc, ◌+◌, ◌-◌, List, [], ◌∷◌, length, Option, Some, None, slice_get, ◌==◌, if◌then◌else◌}
use Rattle.std.specs.List.{list_any, flat_map}
use Rattle.std.specs.Option.{option_and_then, option_map}
use Rattle.il_base.specs.declared.table.TheConstants.{PROPERTY}
use Rattle.il_base.specs.declared.semantics.TheConstants.{GETTER, SETTER}
use Rattle.il_base.specs.Flags.{has_flag}
use Rattle.il_base.specs.declared.ids.TypeId.{TypeId}
use Rattle.il_base.specs.declared.ids.MethodId.{MethodId}
use Rattle.il_base.specs.declared.ids.Item.{Item}
use Rattle.il_base.specs.declared.ids.Item.TheVariants as item
use Rattle.il_base.specs.declared.world_model.known.Known.{Known}
use Rattle.il_base.specs.declared.world_model.expr.TypeExpr.{TypeExpr, out-TypeExpr}
use Rattle.il_base.specs.declared.world_model.expr.TypeExpr.TheOpen.{TypeExpr-F}
use Rattle.il_base.specs.declared.world_model.expr.TypeExpr as expr
use Rattle.il_base.specs.declared.world_model.expr.MethodUse.{MethodUse}
use Rattle.il_base.specs.declared.world_model.members.FieldRow.{FieldRow}
use Rattle.il_base.specs.declared.world_model.members.MethodDefRow.{MethodDefRow}
use Rattle.il_base.specs.declared.world_model.members.PropertyRow.{PropertyRow}
use Rattle.il_base.specs.declared.world_model.members.MethodSemanticsRow.{MethodSemanticsRow}
use Rattle.il_base.specs.declared.world_model.record.AsmRec.{AsmRec}
use Rattle.il_base.specs.world_model.Tokens.{token_of}
use Rattle.il_base.specs.world_model.Worlds.{rows_before, type_id, known_map, known_then}
use Rattle.il_base.specs.declared.core_table.names.CoreName.{CoreName}
use Rattle.il_base.specs.declared.core_table.names.CoreName.TheVariants as core
use Rattle.il_base.specs.declared.core_table.shape.CoreType.{CoreType}
use Rattle.il_base.specs.declared.core_table.types.TheConstants.{TYPES}
use Rattle.il_base.specs.declared.cil_values.definition.PropertyDef.{PropertyDef}
use Rattle.il_base.specs.declared.cil_values.core_call.MemberKind.{MemberKind}
use Rattle.il_base.specs.declared.cil_values.core_call.MemberKind.TheVariants as kind
use Rattle.rules.specs.declared.link_rules.row_at.RowAt.{RowAt}
use Rattle.rules.specs.declared.link_rules.member_type.MethodType.{MethodType}
use Rattle.rules.specs.declared.type_rules.found_member.FoundMember.{FoundMember}
use Rattle.il_base.specs.declared.cil_values.sought.Sought.{Sought}
use Rattle.il_base.specs.declared.cil_values.sought.Sought.TheVariants as sought
use Rattle.attr_blobs.specs.declared.name.NameRead.{NameRead}
use Rattle.attr_blobs.specs.declared.name.NameRead.TheVariants as read
use Rattle.attr_blobs.specs.Values.{name_of_text}
use Rattle.rules.specs.link_rules.Types.{at_row}
use Rattle.rules.specs.link_rules.Signatures.{definition_expr, names_at, method_type}
use Rattle.rules.specs.link_rules.Members.{home_from, type_home, owner_of, array_type, methods_in, fields_in, with_bases}
use Rattle.rules.specs.link_rules.Cycles.{listed, same_row, home_of}
use Rattle.rules.specs.type_rules.Subtypes.{is_subtype}
use Rattle.rules.specs.type_rules.Rows.{rec_at, field_row_at}
use Rattle.rules.specs.type_rules.Slots.{method_home, method_row_at, type_of_method}
use Rattle.rules.specs.type_rules.Dispatch.{dispatch, method_id}
use Rattle.rules.specs.type_rules.Texts.{text}
use Rattle.rules.specs.type_rules.Searches.{find_type, fields_found, methods_found, properties_found, properties_in, accessor_of}
use Rattle.rules.specs.type_rules.Labels.{label, space, encloser_at}
use Rattle.rules.specs.type_rules.Initializers.{initializer}
use Rattle.rules.specs.type_rules.Makers.{maker}
use Rattle.rules.specs.step_rules.Queries.{Queries}
use Rattle.rules.specs.view_rules.Members.{core_call, core_type_row, object_method}
use Rattle.rules.specs.view_rules.Methods.{method_query, field_query, head_query}
use Rattle.rules.specs.view_rules.Layouts.{shape_query, cells_query}

-- ---- types of the core library

-- the id of a type of the core library
abbrev pub core_type_id : List AsmRec → CoreName → ℕ
core_type_id recs name = (type_id recs (length recs - 1) (core_type_row name)).0

abbrev pub core_method_id : List AsmRec → CoreName → ℕ
core_method_id recs name = rows_before methods_in recs (length recs - 1) + object_method name

-- ---- initializers

abbrev pub starts_query : List AsmRec → ℕ → Option ℕ
starts_query recs t = option_map (λ at. (method_id recs at).0) (option_and_then (initializer recs) (type_home recs (record { 0 = t })))

-- ---- constructors

-- of a type definition
abbrev pub maker_of : List AsmRec → ℕ → Option ℕ
maker_of recs t = option_map (λ at. (method_id recs at).0) (option_and_then (maker recs) (type_home recs (record { 0 = t })))

-- of a type by its definition; that of an array has none
unfoldable pub maker_query : List AsmRec → TypeExpr → Option ℕ
maker_query recs e = option_and_then (λ (t : TypeId). maker_of recs t.0) (owner_of recs e)

-- ---- enclosers

unfoldable pub encloser_query : List AsmRec → ℕ → Option ℕ
encloser_query recs t =
    option_map (λ (at : RowAt). (type_id recs at.asm at.row).0) (option_and_then (encloser_at recs) (type_home recs (record { 0 = t })))

-- ---- types by name

abbrev pub sought_type : List AsmRec → Option TypeId → Sought
sought_type recs None = sought.Missing
sought_type recs (Some t) = elim (type_home recs t) [ None ↦ sought.Missing | Some at ↦ sought.Found (definition_expr recs at) ]

abbrev pub sought_from : List AsmRec → ℕ → NameRead → Sought
sought_from recs from (read.Name n) = sought_type recs (find_type recs from n)
sought_from recs from read.Malformed = sought.Missing
sought_from recs from read.Other = sought.Unread

-- the type that a text names, looked for in the assembly of a method and then in the core library
unfoldable pub find_query : List AsmRec → ℕ → List ℕ → Sought
find_query recs m text =
    elim (method_home recs (record { 0 = m })) [ None ↦ sought.Missing | Some at ↦ sought_from recs at.asm (name_of_text text) ]

-- ---- members that reflection finds

-- a type whose members are looked for: an array has those of System.Array (I.8.9.1)
abbrev pub searched_in : List AsmRec → TypeExpr → TypeExpr-F TypeExpr → TypeExpr
searched_in recs e (TypeExpr-F.Array x) = elim (array_type recs) [ Some t ↦ expr.Def t | None ↦ e ]
searched_in recs e _ = e

unfoldable pub searched : List AsmRec → TypeExpr → TypeExpr
searched recs e = searched_in recs e (out-TypeExpr e)

abbrev pub found_along : List AsmRec → MemberKind → Option (List ℕ) → List TypeExpr → List FoundMember
found_along recs kind.Method name es = methods_found recs name es
found_along recs kind.Field name es = fields_found recs name es
found_along recs kind.Property name es = properties_found recs name es

-- the members of a kind that a type has for reflection, all or those of a name
unfoldable pub members_query : List AsmRec → MemberKind → Option (List ℕ) → TypeExpr → List FoundMember
members_query recs k name e = found_along recs k name (with_bases recs (searched recs e))

abbrev pub property_row_at : List AsmRec → RowAt → Option PropertyRow
property_row_at recs at = option_and_then (λ (rec : AsmRec). slice_get rec.property at.row) (rec_at recs at)

abbrev pub method_title : Option MethodDefRow → List ℕ
method_title None = []
method_title (Some row) = row.name

abbrev pub field_title : Option FieldRow → List ℕ
field_title None = []
field_title (Some row) = row.name

abbrev pub property_title : Option PropertyRow → List ℕ
property_title None = []
property_title (Some row) = row.name

-- a member's name
unfoldable pub title_query : List AsmRec → Item → List ℕ
title_query recs (item.Method m) = method_title (option_and_then (method_row_at recs) (method_home recs m))
title_query recs (item.Field f) = field_title (option_and_then (field_row_at recs) (home_from fields_in 0 recs f.0))
title_query recs (item.Prop p) = property_title (option_and_then (property_row_at recs) (home_from properties_in 0 recs p.0))
title_query recs _ = []

-- a property's signature has its type where a method's has the type that is returned (II.23.2.5)
abbrev pub property_type : List AsmRec → ℕ → AsmRec → PropertyRow → Known TypeExpr
property_type recs a rec p = known_map (λ (m : MethodType). m.ret) (known_then (method_type (names_at recs a rec)) p.signature)

-- the first accessor of a property of a kind (II.22.28, II.23.1.12)
abbrev pub accessor_by : ℕ → AsmRec → ℕ → MethodSemanticsRow → List ℕ
accessor_by flag rec token row = if has_flag row.semantics flag then accessor_of rec token row else []

unfoldable pub first_accessor : List AsmRec → ℕ → RowAt → AsmRec → Option ℕ
first_accessor recs flag at rec =
    option_map (λ k. (method_id recs (at_row at.asm k)).0) (slice_get (flat_map (accessor_by flag rec (token_of PROPERTY (suc at.row))) rec.method_semantics) 0)

abbrev pub property_def : List AsmRec → RowAt → AsmRec → PropertyRow → PropertyDef
property_def recs at rec p =
    record { typ = property_type recs at.asm rec p; getter = first_accessor recs GETTER at rec; setter = first_accessor recs SETTER at rec }

abbrev pub property_at : List AsmRec → RowAt → Option PropertyDef
property_at recs at =
    option_and_then (λ (rec : AsmRec). option_map (property_def recs at rec) (slice_get rec.property at.row)) (rec_at recs at)

unfoldable pub property_query : List AsmRec → ℕ → Option PropertyDef
property_query recs p = option_and_then (property_at recs) (home_from properties_in 0 recs p)

-- ---- virtual calls

-- the closed type, of a type and its bases, whose definition has a method
abbrev pub owner_among : List AsmRec → RowAt → List TypeExpr → Option TypeExpr
owner_among recs owner [] = None
owner_among recs owner (e ∷ es) = if list_any (same_row owner) (listed (home_of recs e)) then Some e else owner_among recs owner es

abbrev pub found_owner : List AsmRec → TypeExpr → MethodId → Option TypeExpr
found_owner recs e m = option_and_then (λ owner. owner_among recs owner (with_bases recs e)) (option_and_then (type_of_method recs) (method_home recs m))

abbrev pub with_owner : List AsmRec → TypeExpr → MethodId → Option MethodUse
with_owner recs e m = option_map (λ owner. record { method = m; owner = owner; args = [] }) (found_owner recs e m)

-- the method that a virtual call runs for an object of a type, and the closed type in which it was found
unfoldable pub answers_query : List AsmRec → TypeExpr → TypeExpr → ℕ → Option MethodUse
answers_query recs e owner m = option_and_then (with_owner recs e) (dispatch recs e owner (record { 0 = m }))

-- ---- the nearest type of the core library

abbrev pub core_name_at : List AsmRec → RowAt → Option CoreName
core_name_at recs at = if suc at.asm == length recs then option_map (λ (t : CoreType). t.name) (slice_get TYPES at.row) else None

abbrev pub nearest_core : List AsmRec → List TypeExpr → Option CoreName
nearest_core recs [] = None
nearest_core recs (e ∷ es) = or_nearest (option_and_then (core_name_at recs) (home_of recs e)) (nearest_core recs es)
  where
    or_nearest : Option CoreName → Option CoreName → Option CoreName
    or_nearest None later = later
    or_nearest (Some n) later = Some n

-- ---- all questions

-- the answers of the assemblies of a linked world, the last of which is the core library
unfoldable pub queries_of : List AsmRec → Queries
queries_of recs = record {
  core = core_call recs;
  known = core_type_id recs;
  method = method_query recs;
  field = field_query recs;
  head = head_query recs;
  shape = shape_query recs;
  cells = cells_query recs;
  starts = starts_query recs;
  maker = maker_query recs;
  below = is_subtype recs;
  answers = answers_query recs;
  text = text recs;
  label = label recs;
  space = space recs;
  encloser = encloser_query recs;
  find = find_query recs;
  members = members_query recs;
  title = title_query recs;
  property = property_query recs;
  kin = λ e. nearest_core recs (with_bases recs e);
  to_string = core_method_id recs core.ToString;
  equals = core_method_id recs core.Equals;
}
