-- TypeRef rows that name nothing (II.22.38), which copied attributes can have. Each is identified by the first TypeRef row of the
-- inputs with the same names and scopes. As a type it has the place of that row after the types of the world.
use Rattle.std.specs.Prelude.{ℕ, zero, suc, ◌+◌, ◌-◌, List, [], length, Option, Some, None, slice_get, position, nat_le, ◌==◌, ◌&&◌, Bool, false, if◌then◌else◌}
use Rattle.std.specs.Option.{option_map, option_and_then}
use Rattle.il_base.specs.declared.ids.TypeId.{TypeId}
use Rattle.il_base.specs.declared.table.TheConstants.{TYPE_REF, ASSEMBLY_REF}
use Rattle.il_base.specs.declared.world_model.assemblies.AssemblyRefRow.{AssemblyRefRow}
use Rattle.il_base.specs.declared.world_model.types.TypeRefRow.{TypeRefRow}
use Rattle.il_base.specs.declared.world_model.record.AsmRec.{AsmRec}
use Rattle.il_base.specs.world_model.Tokens.{index_in}
use Rattle.il_base.specs.world_model.Core.{same_name}
use Rattle.il_base.specs.world_model.Worlds.{rows_before, types_in}
use Rattle.rules.specs.declared.link_rules.row_at.RowAt.{RowAt}
use Rattle.rules.specs.link_rules.Types.{at_row, ref_definition}
use Rattle.rules.specs.link_rules.Cycles.{same_row}
use Rattle.rules.specs.type_rules.Rows.{rec_at}
use Rattle.rules.specs.merge_rules.Numbers.{rows_of_kind}

-- ---- assemblies by what is written of them

-- an AssemblyRef row without its hash, which isn't written
abbrev pub bare : AssemblyRefRow → AssemblyRefRow
bare row = record row { hash_value = [] }

abbrev pub same_assembly : AssemblyRefRow → AssemblyRefRow → Bool
same_assembly a b =
    a.major_version == b.major_version && a.minor_version == b.minor_version && a.build_number == b.build_number
    && a.revision_number == b.revision_number && a.flags == b.flags && same_name a.public_key_or_token b.public_key_or_token
    && same_name a.name b.name && same_name a.culture b.culture

-- ---- TypeRef rows of the inputs

abbrev pub reference_rows : List AsmRec → List RowAt
reference_rows recs = rows_of_kind (λ rec. length rec.type_ref) recs

abbrev pub reference_at : List AsmRec → RowAt → Option TypeRefRow
reference_at recs at = option_and_then (λ (rec : AsmRec). slice_get rec.type_ref at.row) (rec_at recs at)

-- the definition that a TypeRef row names
abbrev pub definition_of : List AsmRec → RowAt → Option RowAt
definition_of recs at = option_and_then (λ rec. ref_definition recs at.asm rec at.row) (rec_at recs at)

-- the assembly that a TypeRef row has as its scope
abbrev pub assembly_scope : List AsmRec → RowAt → Option AssemblyRefRow
assembly_scope recs at =
    option_and_then
    (λ (row : TypeRefRow). option_and_then (λ (rec : AsmRec). option_and_then (slice_get rec.assembly_ref) (index_in ASSEMBLY_REF row.resolution_scope)) (rec_at recs at))
    (reference_at recs at)

-- the TypeRef row that a TypeRef row has as its scope
abbrev pub reference_scope : List AsmRec → RowAt → Option RowAt
reference_scope recs at = option_and_then (λ (row : TypeRefRow). option_map (at_row at.asm) (index_in TYPE_REF row.resolution_scope)) (reference_at recs at)

-- ---- which ones read the same: names and scopes do

abbrev pub both : {A : Type 0} → (A → A → Bool) → Option A → Option A → Bool → Bool
both same (Some x) (Some y) other = same x y
both same (Some x) None other = false
both same None (Some y) other = false
both same None None other = other

-- whether two TypeRef rows as scopes are the same: by the definitions that they name, else by how they read
abbrev pub same_outer : List AsmRec → (RowAt → RowAt → Bool) → RowAt → RowAt → Bool
same_outer recs reads x y = both same_row (definition_of recs x) (definition_of recs y) (reads x y)

abbrev pub same_scope : List AsmRec → (RowAt → RowAt → Bool) → RowAt → RowAt → TypeRefRow → TypeRefRow → Bool
same_scope recs reads x y row other =
    both (same_outer recs reads) (reference_scope recs x) (reference_scope recs y)
    (both same_assembly (assembly_scope recs x) (assembly_scope recs y) (row.resolution_scope == other.resolution_scope))

abbrev pub rows_same : List AsmRec → (RowAt → RowAt → Bool) → RowAt → RowAt → Option TypeRefRow → Option TypeRefRow → Bool
rows_same recs reads x y (Some row) (Some other) =
    same_name row.name other.name && same_name row.namespace other.namespace && same_scope recs reads x y row other
rows_same recs reads x y _ _ = false

-- whether two TypeRef rows read the same, over at most n scopes; a chain of scopes that comes back to a row is the same as no other
unfoldable pub reads_same : List AsmRec → ℕ → RowAt → RowAt → Bool
reads_same recs zero x y = false
reads_same recs (suc n) x y = rows_same recs (reads_same recs n) x y (reference_at recs x) (reference_at recs y)

-- ---- their places as types

-- how many types the world has
abbrev pub type_count : List AsmRec → ℕ
type_count recs = rows_before types_in recs (length recs)

abbrev pub first_same : List AsmRec → RowAt → Option ℕ
first_same recs at = position (reads_same recs (length (reference_rows recs)) at) (reference_rows recs)

-- the place of a TypeRef row that names nothing
unfoldable pub absent_type : List AsmRec → RowAt → Option TypeId
absent_type recs at = option_map (λ k. record { 0 = type_count recs + k }) (first_same recs at)

-- the TypeRef row whose place is this one, after the types of the world
unfoldable pub absent_row : List AsmRec → TypeId → Option RowAt
absent_row recs t = if nat_le (type_count recs) t.0 then slice_get (reference_rows recs) (t.0 - type_count recs) else None
