-- The tokens of types and TypeRef rows, over what code holds.
use Rattle.std.specs.Prelude.{ℕ, List, map, position, Some, None, if◌then◌else◌}
use Rattle.std.specs.List.{flat_map}
use Rattle.std.specs.Option.{option_and_then}
use Rattle.il_base.specs.declared.ids.TypeId.{TypeId}
use Rattle.il_base.specs.declared.table.TheConstants.{TYPE_REF, TYPE_DEF}
use Rattle.il_base.specs.declared.world_model.assemblies.AssemblyRefRow.{AssemblyRefRow}
use Rattle.il_base.specs.declared.world_model.types.TypeDefRow.{TypeDefRow}
use Rattle.il_base.specs.declared.world_model.types.TypeRefRow.{TypeRefRow}
use Rattle.il_base.specs.declared.world_model.record.AsmRec.{AsmRec}
use Rattle.rules.specs.declared.link_rules.row_at.RowAt.{RowAt}
use Rattle.rules.specs.link_rules.Members.{type_home}
use Rattle.rules.specs.link_rules.Cycles.{listed}
use Rattle.rules.specs.type_rules.Rows.{type_row_at}
use Rattle.rules.specs.merge_rules.Absent.{absent_row, reference_at}
use Rattle.rules.specs.merge_rules.Refs.{same_id, is_reference, scope_type, assemblies_of, own_scope, first_or, row_token, kept_token}
use Rattle.reference_rows.specs.reference_scopes.Scopes.{recs_of, IsScopes}
use Rattle.reference_rows.specs.reference_assemblies.Assemblies.{assembly_token_by}
use Rattle.reference_rows.specs.declared.tokens.TypeTokens.{TypeTokens}

-- the records of all assemblies
abbrev pub recs_in : TypeTokens → List AsmRec
recs_in t = recs_of t.scopes.now

pub record AreTokens (t : TypeTokens) : Type 0 where
  pub scopes : IsScopes t.scopes.now

abbrev pub kept_type_token : List AsmRec → List RowAt → TypeId → ℕ
kept_type_token recs kept id = kept_token TYPE_DEF kept (type_home recs id)

unfoldable pub type_token_by : TypeTokens → TypeId → ℕ
type_token_by t id =
    if is_reference (recs_in t) id then row_token TYPE_REF (position (same_id id) t.refs.now) else kept_type_token (recs_in t) t.kept.now id

-- ---- scopes, with the AssemblyRef rows of the output

abbrev pub other_scope_by : TypeTokens → List AssemblyRefRow → TypeId → ℕ
other_scope_by t assemblies id = first_or (map (assembly_token_by assemblies) (assemblies_of (recs_in t) id)) (own_scope (recs_in t) id)

abbrev pub scope_token_by : TypeTokens → List AssemblyRefRow → TypeId → ℕ
scope_token_by t assemblies id = elim (scope_type (recs_in t) id) [ Some around ↦ type_token_by t around | None ↦ other_scope_by t assemblies id ]

-- ---- rows

abbrev pub named_row : ℕ → List ℕ → List ℕ → TypeRefRow
named_row scope name namespace = record { resolution_scope = scope; name = name; namespace = namespace }

abbrev pub found_row : ℕ → TypeDefRow → TypeRefRow
found_row scope row = named_row scope row.name row.namespace

abbrev pub absent_ref : ℕ → TypeRefRow → TypeRefRow
absent_ref scope row = named_row scope row.name row.namespace

abbrev pub found_by : TypeTokens → List AssemblyRefRow → TypeId → List TypeRefRow
found_by t assemblies id = map (found_row (scope_token_by t assemblies id)) (listed (option_and_then (type_row_at (recs_in t)) (type_home (recs_in t) id)))

abbrev pub absent_by : TypeTokens → List AssemblyRefRow → TypeId → RowAt → List TypeRefRow
absent_by t assemblies id at = map (absent_ref (scope_token_by t assemblies id)) (listed (reference_at (recs_in t) at))

abbrev pub type_ref_by : TypeTokens → List AssemblyRefRow → TypeId → List TypeRefRow
type_ref_by t assemblies id = elim (absent_row (recs_in t) id) [ Some at ↦ absent_by t assemblies id at | None ↦ found_by t assemblies id ]

abbrev pub type_ref_rows_by : TypeTokens → List AssemblyRefRow → List TypeRefRow
type_ref_rows_by t assemblies = flat_map (type_ref_by t assemblies) t.refs.now
