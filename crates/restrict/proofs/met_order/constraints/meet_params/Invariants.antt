use Rattle.std.proofs.Common.{◌≡◌, ℕ, [], ◌++◌, drop}
use Rattle.std.specs.Prelude.{slice_get}
use Rattle.std.specs.List.{flat_map}
use Rattle.std.specs.Option.{option_map_or}
use Rattle.token_keys.specs.Keys.{recs_of, place_of, rec_of}
use Rattle.restrict.specs.met_order.Owned.{met_bounds}
use Rattle.restrict.proofs.met_order.constraints.meet_params.Given as goal

abbrev pub invariant-loop-k : goal.invariant-loop-k
invariant-loop-k l =
    l.mets ++ flat_map (λ (k : ℕ). option_map_or (met_bounds (recs_of l.keys) (place_of l.keys) (rec_of l.keys) k) (slice_get (rec_of l.keys).generic_param k) []) (drop l.k-index l.rows) ≡ l.initial.mets ++ flat_map (λ (k : ℕ). option_map_or (met_bounds (recs_of l.keys) (place_of l.keys) (rec_of l.keys) k) (slice_get (rec_of l.keys).generic_param k) []) l.rows
