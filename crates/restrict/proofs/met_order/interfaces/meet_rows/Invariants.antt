use Rattle.std.proofs.Common.{◌≡◌, ℕ, [], ◌++◌, drop}
use Rattle.std.specs.Prelude.{slice_get}
use Rattle.std.specs.List.{flat_map}
use Rattle.std.specs.Option.{option_map_or}
use Rattle.merge_plan.specs.Kept.{kept_by}
use Rattle.token_keys.specs.Keys.{recs_of, place_of, rec_of}
use Rattle.restrict.specs.met_order.Owned.{met_kept_interface}
use Rattle.restrict.proofs.met_order.interfaces.meet_rows.Given as goal

abbrev pub invariant-loop-k : goal.invariant-loop-k
invariant-loop-k l =
    l.mets ++ flat_map (λ (k : ℕ). option_map_or (met_kept_interface (recs_of l.keys) (kept_by l.kept) (place_of l.keys) (rec_of l.keys) k) (slice_get (rec_of l.keys).interface_impl k) []) (drop l.k-index l.rows) ≡ l.initial.mets ++ flat_map (λ (k : ℕ). option_map_or (met_kept_interface (recs_of l.keys) (kept_by l.kept) (place_of l.keys) (rec_of l.keys) k) (slice_get (rec_of l.keys).interface_impl k) []) l.rows
