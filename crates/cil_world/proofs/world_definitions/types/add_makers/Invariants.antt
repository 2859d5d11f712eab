use Rattle.std.proofs.Common.{◌≡◌, ◌++◌}
use Rattle.mark_parts.specs.mark_tables.Assemblies.{all_of}
use Rattle.cil_world.specs.world_definitions.Types.{maker_at}
use Rattle.cil_world.specs.world_methods.Rows.{rows_of}
use Rattle.cil_world.proofs.world_definitions.types.add_makers.Given as goal

abbrev pub invariant-loop-k : goal.invariant-loop-k
invariant-loop-k l = l.rows.items ≡ l.initial.rows.items ++ rows_of (maker_at (all_of l.marker)) l.a l.k
