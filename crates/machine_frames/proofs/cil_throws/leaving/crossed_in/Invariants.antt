use Rattle.std.proofs.Common.{◌≡◌, drop}
use Rattle.rules.specs.step_rules.Raising.{places_of}
use Rattle.rules.specs.step_rules.Throws.{is_crossed}
use Rattle.machine_frames.proofs.cil_throws.leaving.crossed_in.Given as goal

abbrev pub invariant-loop-n : goal.invariant-loop-n
invariant-loop-n l = l.places ≡ places_of (is_crossed l.at l.to) l.n (drop l.n l.clauses)
