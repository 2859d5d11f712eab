use Rattle.std.proofs.Common.{◌≡◌, length}
use Rattle.cil_world.specs.Kept.{AreKept}
use Rattle.cil_world.proofs.kept.kept_below.Given as goal

abbrev pub invariant-loop-n : goal.invariant-loop-n
invariant-loop-n l = AreKept l.layouts.recs l.kept.items × (length l.kept.items ≡ l.n)
