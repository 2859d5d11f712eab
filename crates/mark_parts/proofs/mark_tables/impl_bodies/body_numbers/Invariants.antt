use Rattle.std.proofs.Common.{◌≡◌, ◌++◌, map, drop}
use Rattle.il_base.specs.declared.world_model.members.MethodImplRow.{MethodImplRow}
use Rattle.type_tables.specs.Uses.{use_in}
use Rattle.mark_parts.specs.mark_tables.Impls.{number_of}
use Rattle.mark_parts.proofs.mark_tables.impl_bodies.body_numbers.Given as goal

abbrev pub invariant-loop-row : goal.invariant-loop-row
invariant-loop-row l =
    l.numbers.items ++ map (λ (r : MethodImplRow). number_of (use_in l.tables.world.now.recs l.asm r.body)) (drop l.row-index l.row-items)
    ≡ map (λ (r : MethodImplRow). number_of (use_in l.tables.world.now.recs l.asm r.body)) l.row-items
