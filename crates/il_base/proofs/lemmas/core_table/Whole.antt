-- The core record is the record of its tables.
use Rattle.std.proofs.Common.{◌≡◌, List, [], ◌∷◌, refl}
use Rattle.il_base.specs.declared.world_model.assemblies.AssemblyRow.{AssemblyRow}
use Rattle.il_base.specs.declared.world_model.members.FieldRow.{FieldRow}
use Rattle.il_base.specs.declared.world_model.members.MethodDefRow.{MethodDefRow}
use Rattle.il_base.specs.declared.world_model.types.ModuleRow.{ModuleRow}
use Rattle.il_base.specs.declared.world_model.types.TypeDefRow.{TypeDefRow}
use Rattle.il_base.specs.declared.world_model.record.AsmRec.{AsmRec}
use Rattle.il_base.specs.declared.core_table.types.TheConstants.{TYPES}
use Rattle.il_base.specs.core_table.Record.{module_row, assembly_row, type_rows, all_fields, all_methods, record_with, core_record}

pub core-is :
    (rec : AsmRec) (modules : List ModuleRow) (types : List TypeDefRow) (fields : List FieldRow) (methods : List MethodDefRow) (assemblies : List AssemblyRow)
    → rec ≡ record_with modules types fields methods assemblies
    → modules ≡ module_row ∷ []
    → types ≡ type_rows 1 1 TYPES
    → fields ≡ all_fields TYPES
    → methods ≡ all_methods TYPES
    → assemblies ≡ assembly_row ∷ []
    → rec ≡ core_record
unfolding core_record
core-is rec modules types fields methods assemblies whole m t f d a = rw (whole, m, t, f, d, a) refl
