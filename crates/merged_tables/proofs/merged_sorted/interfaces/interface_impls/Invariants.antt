use Rattle.std.proofs.Common.{◌≡◌, ◌++◌, drop}
use Rattle.std.specs.List.{flat_map}
use Rattle.merged_tables.specs.merged_sorted.Owned.{interface_of}
use Rattle.merged_tables.proofs.merged_sorted.interfaces.interface_impls.Given as goal

abbrev pub invariant-loop-place : goal.invariant-loop-place
invariant-loop-place l = l.rows ++ flat_map (interface_of l.recs l.tokens) (drop l.place-index l.places) ≡ flat_map (interface_of l.recs l.tokens) l.places
