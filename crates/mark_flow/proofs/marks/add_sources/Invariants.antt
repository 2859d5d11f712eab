use Rattle.std.proofs.Common.{◌≡◌, ◌++◌, drop}
use Rattle.std.specs.List.{flat_map}
use Rattle.rules.specs.mark_rules.FlowMarks.{source_marks}
use Rattle.mark_flow.specs.Tables.{recs_in}
use Rattle.mark_flow.proofs.marks.add_sources.Given as goal

abbrev pub invariant-loop-source : goal.invariant-loop-source
invariant-loop-source l = l.facts ++ flat_map (source_marks (recs_in l.tables) l.site l.site.target) (drop l.source-index l.sources) ≡ l.initial.facts ++ flat_map (source_marks (recs_in l.tables) l.site l.site.target) l.sources
