use Rattle.std.proofs.Common.{◌≡◌, ◌-◌}
use Rattle.std.specs.List.{list_any}
use Rattle.rules.specs.link_rules.Members.{bases_from}
use Rattle.mark_parts.specs.mark_tables.Assemblies.{all_of}
use Rattle.mark_items.specs.mark_calls.Found.{is_home}
use Rattle.mark_items.proofs.mark_calls.found.is_among_bases.Given as goal

abbrev pub invariant-loop : goal.invariant-loop
invariant-loop l =
    list_any (is_home (all_of l.marker) l.c) (bases_from (all_of l.marker) (l.count - l.counter) l.ty) ≡ list_any (is_home (all_of l.marker) l.c) (bases_from (all_of l.marker) l.count l.fn.start)
