use Rattle.std.proofs.Common.{◌≡◌, ◌++◌, drop}
use Rattle.std.specs.List.{flat_map}
use Rattle.rules.specs.mark_rules.FlowMarks.{asked_of}
use Rattle.mark_flow.specs.Tables.{recs_in}
use Rattle.mark_flow.proofs.marks.add_asked_of_all.Given as goal

abbrev pub invariant-loop-t : goal.invariant-loop-t
invariant-loop-t l = l.facts ++ flat_map (asked_of (recs_in l.tables) l.site) (drop l.t-index l.known) ≡ l.initial.facts ++ flat_map (asked_of (recs_in l.tables) l.site) l.known
