use Rattle.std.proofs.Common.{◌≡◌, ◌++◌, drop}
use Rattle.std.specs.List.{flat_map}
use Rattle.merged_tables.specs.merged_sorted.Owned.{constraint_of}
use Rattle.merged_tables.proofs.merged_sorted.constraints.constraints.Given as goal

abbrev pub invariant-loop-place : goal.invariant-loop-place
invariant-loop-place l = l.rows ++ flat_map (constraint_of l.recs l.tokens) (drop l.place-index l.places) ≡ flat_map (constraint_of l.recs l.tokens) l.places
