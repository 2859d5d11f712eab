-- The assemblies that an assembly's references name.
use Rattle.std.specs.Prelude.{ℕ, List, Option, map}
use Rattle.il_base.specs.declared.world_model.assemblies.AssemblyRefRow.{AssemblyRefRow}
use Rattle.il_base.specs.declared.world_model.record.AsmRec.{AsmRec}
use Rattle.rules.specs.link_rules.Types.{assembly_named}

abbrev pub assemblies_of : List AsmRec → AsmRec → List (Option ℕ)
assemblies_of all rec = map (λ (row : AssemblyRefRow). assembly_named all row.name) rec.assembly_ref
