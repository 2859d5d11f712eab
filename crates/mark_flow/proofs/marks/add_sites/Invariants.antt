use Rattle.std.proofs.Common.{◌≡◌, ◌++◌, drop}
use Rattle.std.specs.List.{flat_map}
use Rattle.rules.specs.mark_rules.FlowMarks.{site_marks}
use Rattle.mark_flow.specs.Tables.{recs_in}
use Rattle.mark_flow.proofs.marks.add_sites.Given as goal

abbrev pub invariant-loop-site : goal.invariant-loop-site
invariant-loop-site l = l.facts ++ flat_map (site_marks (recs_in l.tables)) (drop l.site-index l.sites) ≡ l.initial.facts ++ flat_map (site_marks (recs_in l.tables)) l.sites
