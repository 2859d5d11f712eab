use Rattle.std.proofs.Common.{◌≡◌, ◌++◌, drop}
use Rattle.std.specs.List.{flat_map}
use Rattle.rules.specs.mark_rules.Roots.{member_by}
use Rattle.mark_roots.specs.Lookups.{recs_in}
use Rattle.mark_roots.proofs.members.add_members.Given as goal

abbrev pub invariant-loop-r : goal.invariant-loop-r
invariant-loop-r l = l.facts ++ flat_map (member_by (recs_in l.lookup) l.t) (drop l.r-index l.members) ≡ l.initial.facts ++ flat_map (member_by (recs_in l.lookup) l.t) l.members
