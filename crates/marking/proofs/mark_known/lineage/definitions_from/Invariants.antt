use Rattle.std.proofs.Common.{◌≡◌, ◌-◌, ◌++◌}
use Rattle.std.specs.List.{flat_map}
use Rattle.rules.specs.link_rules.Members.{bases_from}
use Rattle.mark_parts.specs.mark_tables.Assemblies.{all_of}
use Rattle.marking.specs.mark_known.Facts.{homes}
use Rattle.marking.proofs.mark_known.lineage.definitions_from.Given as goal

abbrev pub invariant-loop : goal.invariant-loop
invariant-loop l =
    l.rows.items ++ flat_map (homes (all_of l.marker)) (bases_from (all_of l.marker) (l.count - l.counter) l.ty) ≡ flat_map (homes (all_of l.marker)) (bases_from (all_of l.marker) l.count l.fn.start)
