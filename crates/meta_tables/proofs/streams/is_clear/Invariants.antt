-- No flag so far is set.
use Rattle.std.proofs.Common.{◌≡◌, drop}
use Rattle.meta_tables.specs.Held.{clear}
use Rattle.meta_tables.proofs.streams.is_clear.Given as goal

abbrev pub invariant-loop-flag : goal.invariant-loop-flag
invariant-loop-flag l = clear (drop l.flag-index l.flags) ≡ clear l.flags
