use Rattle.std.proofs.Common.{◌≡◌, ◌++◌, drop, map}
use Rattle.std.specs.List.{flat_map}
use Rattle.mark_parts.specs.mark_facts.Told.{part_told}
use Rattle.mark_parts.specs.mark_tables.Assemblies.{all_of}
use Rattle.rules.specs.site_rules.Arguments.{part_sites}
use Rattle.requirements.proofs.generic_sites.named.put_parts.Given as goal

abbrev pub invariant-loop-part : goal.invariant-loop-part
invariant-loop-part l =
    l.sites ++ flat_map (part_sites (all_of l.annotated.marker.now) l.asm l.owner) (map part_told (drop l.part-index l.part-items))
    ≡ l.initial.sites ++ flat_map (part_sites (all_of l.annotated.marker.now) l.asm l.owner) (map part_told l.part-items)
