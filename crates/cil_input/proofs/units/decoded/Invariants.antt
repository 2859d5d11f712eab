use Rattle.std.proofs.Common.{◌≡◌, ◌++◌, drop}
use Rattle.rules.specs.step_rules.Input.{decoded_after}
use Rattle.cil_input.proofs.units.decoded.Given as goal

abbrev pub invariant-loop-at : goal.invariant-loop-at
invariant-loop-at l = l.units.items ++ decoded_after l.inside (drop l.at l.bytes) ≡ decoded_after 0 l.bytes
