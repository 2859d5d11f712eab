use Rattle.std.proofs.Common.{◌≡◌, ◌++◌, drop}
use Rattle.std.specs.List.{flat_map}
use Rattle.merged_tables.specs.merged_members.Members.{param_of}
use Rattle.merged_tables.proofs.merged_members.params.params.Given as goal

abbrev pub invariant-loop-at : goal.invariant-loop-at
invariant-loop-at l = l.rows ++ flat_map (param_of l.recs) (drop l.at-index l.places) ≡ flat_map (param_of l.recs) l.places
