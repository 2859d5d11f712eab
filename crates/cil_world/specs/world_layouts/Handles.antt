-- The rows of the handles in the core library's table.
use Rattle.std.specs.Prelude.{◌≡◌}
use Rattle.il_base.specs.declared.core_table.names.CoreName.TheVariants as core
use Rattle.rules.specs.view_rules.Members.{core_type_row}
use Rattle.cil_world.specs.declared.world_layouts.making.HandleRows.{HandleRows}

pub record AreHandleRows (rows : HandleRows) : Type 0 where
  pub of_type : rows.of_type ≡ core_type_row core.RuntimeTypeHandle
  pub of_field : rows.of_field ≡ core_type_row core.RuntimeFieldHandle
