use Rattle.std.proofs.Common.{◌≡◌, ◌-◌, ◌++◌, map}
use Rattle.std.specs.List.{range_with_len}
use Rattle.rules.specs.link_rules.Types.{at_row}
use Rattle.mark_parts.specs.mark_tables.Assemblies.{all_of}
use Rattle.cil_world.specs.world_layouts.Kinds.{kind_at}
use Rattle.cil_world.proofs.world_layouts.making.add_kinds.Given as goal

abbrev pub invariant-loop-row : goal.invariant-loop-row
invariant-loop-row l =
    l.kinds.items ++ map (λ k. kind_at (all_of l.marker) (at_row l.asm k)) (range_with_len l.row (l.count - l.row))
    ≡ l.initial.kinds.items ++ map (λ k. kind_at (all_of l.marker) (at_row l.asm k)) (range_with_len 0 l.count)
