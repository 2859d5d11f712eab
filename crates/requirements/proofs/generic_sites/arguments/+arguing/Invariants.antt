use Rattle.std.proofs.Common.{◌≡◌, ◌++◌, drop, map}
use Rattle.mark_parts.specs.mark_tables.Assemblies.{all_of}
use Rattle.rules.specs.site_rules.Arguments.{argument, sites_from}
use Rattle.requirements.specs.generic_sites.Asked.{target_of, asked_kinds}
use Rattle.requirements.proofs.generic_sites.arguments.+arguing.Given as goal

abbrev pub invariant-put_all-loop-i : goal.invariant-put_all-loop-i
invariant-put_all-loop-i l =
    l.sites ++ sites_from l.within.place (target_of l.generic) (asked_kinds (all_of l.annotated.marker.now) l.generic) l.i (map (argument (all_of l.annotated.marker.now) l.within.owner l.within.place) (drop l.i l.args))
    ≡ l.initial.sites ++ sites_from l.within.place (target_of l.generic) (asked_kinds (all_of l.annotated.marker.now) l.generic) 0 (map (argument (all_of l.annotated.marker.now) l.within.owner l.within.place) l.args)
