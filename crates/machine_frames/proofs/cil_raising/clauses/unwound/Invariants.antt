use Rattle.std.proofs.Common.{◌≡◌, drop}
use Rattle.rules.specs.step_rules.Raising.{is_unwound, places_of}
use Rattle.machine_frames.proofs.cil_raising.clauses.unwound.Given as goal

abbrev pub invariant-loop-n : goal.invariant-loop-n
invariant-loop-n l = l.places ≡ places_of (is_unwound l.at) l.n (drop l.n l.clauses)
