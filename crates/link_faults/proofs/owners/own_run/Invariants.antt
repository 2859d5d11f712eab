use Rattle.std.proofs.Common.{◌≡◌, ℕ, ◌-◌, ◌<◌, ◌≤◌, min, max, length, slice_index_or, Some, None, nat_le, nat_lt, ◌&&◌}
use Rattle.std.specs.Prelude.{if◌then◌else◌}
use Rattle.link_faults.proofs.owners.own_run.Given as goal

abbrev pub invariant-loop-at : goal.invariant-loop-at
invariant-loop-at l = record {
  owned : (k : ℕ) → k < length l.owners → slice_index_or l.owners k None ≡ (if nat_le (l.first - 1) k && nat_lt k l.at then Some l.owner else slice_index_or l.initial.owners k None);
  far : l.at ≤ max (l.first - 1) (min (l.end - 1) (length l.owners));
}
