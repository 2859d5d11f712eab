use Rattle.std.proofs.Common.{◌≡◌, ◌-◌}
use Rattle.rules.specs.link_rules.Members.{bases_from}
use Rattle.rules.specs.type_rules.Slots.{nearest}
use Rattle.mark_parts.specs.mark_tables.Assemblies.{all_of}
use Rattle.mark_items.specs.mark_named.Nearest.{sought}
use Rattle.mark_items.proofs.mark_named.nearest.nearest_member.Given as goal

abbrev pub invariant-loop : goal.invariant-loop
invariant-loop l =
    nearest (sought (all_of l.marker) l.field l.name) (bases_from (all_of l.marker) (l.count - l.counter) l.ty)
    ≡ nearest (sought (all_of l.marker) l.field l.name) (bases_from (all_of l.marker) l.count l.fn.start)
