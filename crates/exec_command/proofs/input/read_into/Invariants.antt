use Rattle.std.proofs.Common.{◌+◌, ◌-◌, vec_len}
use Rattle.exec_command.specs.declared.input.TheConstants.{MOST_BYTES}
use Rattle.exec_command.proofs.InputRead.{Taken}
use Rattle.exec_command.proofs.input.read_into.Given as goal

abbrev pub invariant-loop-input : goal.invariant-loop-input
invariant-loop-input g l = Taken l.bytes.items (g.I.Source.state l.initial.input) (g.I.Source.state l.input)

abbrev pub decreases-loop-input : goal.decreases-loop-input
decreases-loop-input g l = MOST_BYTES + 1 - vec_len l.bytes
