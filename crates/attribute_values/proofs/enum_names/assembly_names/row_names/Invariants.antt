use Rattle.std.proofs.Common.{◌≡◌, ◌++◌, map, drop}
use Rattle.il_base.specs.declared.world_model.assemblies.AssemblyRow.{AssemblyRow}
use Rattle.attribute_values.proofs.enum_names.assembly_names.row_names.Given as goal

abbrev pub invariant-loop-row : goal.invariant-loop-row
invariant-loop-row l = l.names ++ map (λ (row : AssemblyRow). row.name) (drop l.row-index l.rows) ≡ map (λ (row : AssemblyRow). row.name) l.rows
