use Rattle.std.proofs.Common.{◌≡◌, ◌++◌, drop}
use Rattle.il_base.specs.world_model.Worlds.{types_in}
use Rattle.mark_parts.specs.mark_tables.Assemblies.{all_of}
use Rattle.cil_world.specs.world_definitions.Types.{maker_at}
use Rattle.cil_world.specs.world_methods.Rows.{rows_from}
use Rattle.cil_world.proofs.world_definitions.types.makers_of.Given as goal

abbrev pub invariant-loop-a : goal.invariant-loop-a
invariant-loop-a l = l.rows.items ++ rows_from types_in (maker_at (all_of l.marker)) l.a (drop l.a l.all) ≡ rows_from types_in (maker_at (all_of l.marker)) 0 l.all
