use Rattle.std.proofs.Common.{take}
use Rattle.std.specs.List.{AllZip}
use Rattle.type_tables.specs.Groups.{AreGroups}
use Rattle.mark_parts.specs.mark_tables.Impls.{numbers_from}
use Rattle.mark_parts.proofs.mark_tables.impl_bodies.impl_bodies.Given as goal

abbrev pub invariant-loop-a : goal.invariant-loop-a
invariant-loop-a l = AllZip AreGroups (take l.a (numbers_from l.tables.world.now.recs 0 l.all)) l.impls.items
