-- None of the streams so far has the name.
use Rattle.std.proofs.Common.{◌≡◌, drop}
use Rattle.meta_tables.specs.Held.{fresh}
use Rattle.meta_tables.proofs.streams.is_fresh.Given as goal

abbrev pub invariant-loop-t : goal.invariant-loop-t
invariant-loop-t l = fresh l.s (drop l.t-index l.earlier) ≡ fresh l.s l.earlier
