use Rattle.std.proofs.Common.{◌≡◌, drop, reverse}
use Rattle.rules.specs.step_rules.Throws.{reason_of}
use Rattle.machine_frames.proofs.lemmas.cil_throws.Handling.{reason_on}
use Rattle.machine_frames.proofs.cil_throws.reasons.reason_in.Given as goal

abbrev pub invariant-loop-k : goal.invariant-loop-k
invariant-loop-k l = reason_on l.n (drop l.k (reverse l.handlers)) ≡ reason_of l.n (reverse l.handlers)
