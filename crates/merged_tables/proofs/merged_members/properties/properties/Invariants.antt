use Rattle.std.proofs.Common.{◌≡◌, ◌++◌, drop}
use Rattle.std.specs.List.{flat_map}
use Rattle.merged_tables.specs.merged_members.Members.{property_of}
use Rattle.merged_tables.proofs.merged_members.properties.properties.Given as goal

abbrev pub invariant-loop-at : goal.invariant-loop-at
invariant-loop-at l = l.rows ++ flat_map (property_of l.recs l.tokens) (drop l.at-index l.places) ≡ flat_map (property_of l.recs l.tokens) l.places
