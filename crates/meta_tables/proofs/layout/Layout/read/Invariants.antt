-- The tables so far have their places, which aren't far.
use Rattle.std.proofs.Common.{◌≡◌, ◌+◌, ◌*◌, ◌^◌, ◌≤◌, length, get_or}
use Rattle.meta_tables.specs.Held.{ArePlaces}
use Rattle.meta_tables.proofs.layout.Layout.read.Given as goal

abbrev pub invariant-loop-t : goal.invariant-loop-t
invariant-loop-t l = record {
  size : length l.places ≡ 46;
  places : ArePlaces l.counts l.places (l.t + 1);
  near : get_or l.places l.t 0 ≤ 280 + l.t * 2 ^ 38;
}
