use Rattle.std.proofs.Common.{◌≡◌, ◌++◌, drop}
use Rattle.mark_parts.specs.mark_tables.Assemblies.{all_of}
use Rattle.cil_world.specs.world_layouts.Kinds.{kinds_from}
use Rattle.cil_world.proofs.world_layouts.making.all_kinds.Given as goal

abbrev pub invariant-loop-a : goal.invariant-loop-a
invariant-loop-a l = l.kinds.items ++ kinds_from (all_of l.marker) l.a (drop l.a (all_of l.marker)) ≡ kinds_from (all_of l.marker) 0 (all_of l.marker)
