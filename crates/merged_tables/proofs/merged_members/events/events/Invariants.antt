use Rattle.std.proofs.Common.{◌≡◌, ◌++◌, drop}
use Rattle.std.specs.List.{flat_map}
use Rattle.merged_tables.specs.merged_members.Members.{event_of}
use Rattle.merged_tables.proofs.merged_members.events.events.Given as goal

abbrev pub invariant-loop-at : goal.invariant-loop-at
invariant-loop-at l = l.rows ++ flat_map (event_of l.recs l.tokens) (drop l.at-index l.places) ≡ flat_map (event_of l.recs l.tokens) l.places
