use Rattle.std.proofs.Common.{◌≡◌, ◌*◌, ◌≤◌, ◌++◌, length}
use Rattle.rules.specs.step_rules.Integers.{width_of}
use Rattle.rules.specs.step_rules.CoreArrays.{elements_of}
use Rattle.cil_core.proofs.cil_console_members.elements.elements_of.Given as goal

abbrev pub invariant-loop-rest : goal.invariant-loop-rest
invariant-loop-rest l = record {
  room : l.rest * width_of l.code ≤ length l.left;
  value : l.cells ++ elements_of l.code l.rest l.left ≡ elements_of l.code l.count l.bytes;
}

abbrev pub decreases-loop-rest : goal.decreases-loop-rest
decreases-loop-rest l = l.rest
