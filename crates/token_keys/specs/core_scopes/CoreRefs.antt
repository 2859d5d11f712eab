-- Types that TypeRef rows of the inputs name through references to the core library.
use Rattle.std.specs.Prelude.{ℕ, ◌-◌, List, [], length, map, take, Option, slice_get, if◌then◌else◌}
use Rattle.std.specs.List.{flat_map}
use Rattle.std.specs.Option.{option_and_then}
use Rattle.il_base.specs.declared.table.TheConstants.{ASSEMBLY_REF}
use Rattle.il_base.specs.declared.world_model.assemblies.AssemblyRefRow.{AssemblyRefRow}
use Rattle.il_base.specs.declared.world_model.types.TypeRefRow.{TypeRefRow}
use Rattle.il_base.specs.declared.world_model.record.AsmRec.{AsmRec}
use Rattle.il_base.specs.world_model.Tokens.{index_in}
use Rattle.il_base.specs.world_model.Core.{is_core_scope}
use Rattle.rules.specs.declared.link_rules.row_at.RowAt.{RowAt}
use Rattle.rules.specs.link_rules.Types.{assembly_named, top_type}
use Rattle.rules.specs.link_rules.Cycles.{listed}
use Rattle.token_keys.specs.declared.core_scopes.core_refs.CoreRef as code

-- a type, and the AssemblyRef row through which a TypeRef row names it
pub record CoreRef : Type 0 where
  pub typ : RowAt
  pub by : AssemblyRefRow

abbrev pub told : code.CoreRef → CoreRef
told r = record { typ = r.typ; by = r.by.now }

abbrev pub core_ref : AssemblyRefRow → RowAt → CoreRef
core_ref by at = record { typ = at; by = by }

abbrev pub scope_row : AsmRec → ℕ → Option AssemblyRefRow
scope_row rec scope = option_and_then (slice_get rec.assembly_ref) (index_in ASSEMBLY_REF scope)

abbrev pub named_from : List AsmRec → TypeRefRow → AssemblyRefRow → Option RowAt
named_from recs row by = option_and_then (top_type recs (length recs) row.namespace row.name) (assembly_named recs by.name)

abbrev pub core_refs_of : List AsmRec → AsmRec → TypeRefRow → List CoreRef
core_refs_of recs rec row =
    if is_core_scope rec row.resolution_scope
    then flat_map (λ by. map (core_ref by) (listed (named_from recs row by))) (listed (scope_row rec row.resolution_scope)) else []

abbrev pub core_refs_in : List AsmRec → AsmRec → List CoreRef
core_refs_in recs rec = flat_map (core_refs_of recs rec) rec.type_ref

-- those of all inputs, which are all assemblies but the last
abbrev pub all_core_refs : List AsmRec → List CoreRef
all_core_refs recs = flat_map (core_refs_in recs) (take (length recs - 1) recs)
