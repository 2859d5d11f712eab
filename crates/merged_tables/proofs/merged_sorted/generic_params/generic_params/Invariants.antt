use Rattle.std.proofs.Common.{◌≡◌, ◌++◌, drop}
use Rattle.std.specs.List.{flat_map}
use Rattle.merged_tables.specs.merged_sorted.Owned.{generic_param_of}
use Rattle.merged_tables.proofs.merged_sorted.generic_params.generic_params.Given as goal

abbrev pub invariant-loop-place : goal.invariant-loop-place
invariant-loop-place l = l.rows ++ flat_map (generic_param_of l.recs) (drop l.place-index l.places) ≡ flat_map (generic_param_of l.recs) l.places
