-- The assemblies of types, and their tokens.
use Rattle.std.specs.Prelude.{ℕ, List, position}
use Rattle.std.specs.List.{flat_map}
use Rattle.il_base.specs.declared.ids.TypeId.{TypeId}
use Rattle.il_base.specs.declared.table.TheConstants.{ASSEMBLY_REF}
use Rattle.il_base.specs.declared.world_model.assemblies.AssemblyRefRow.{AssemblyRefRow}
use Rattle.il_base.specs.declared.world_model.record.AsmRec.{AsmRec}
use Rattle.rules.specs.merge_rules.Absent.{same_assembly}
use Rattle.rules.specs.merge_rules.Refs.{all_once, each_once, assemblies_of, row_token}

-- those of the types that have TypeRef rows: with `type_refs` these are `assembly_refs`
abbrev pub assemblies_by : List AsmRec → List TypeId → List AssemblyRefRow
assemblies_by recs types = each_once same_assembly (flat_map (assemblies_of recs) types)

-- the assembly of one type more
abbrev pub meets_listed : List AsmRec → List AssemblyRefRow → TypeId → List AssemblyRefRow
meets_listed recs rows t = all_once same_assembly rows (assemblies_of recs t)

abbrev pub assembly_token_by : List AssemblyRefRow → AssemblyRefRow → ℕ
assembly_token_by rows row = row_token ASSEMBLY_REF (position (same_assembly row) rows)
