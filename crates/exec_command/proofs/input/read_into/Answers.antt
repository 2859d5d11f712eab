use Rattle.exec_command.proofs.InputRead.{input_fault}
use Rattle.exec_command.proofs.input.read_into.Goals as goal

pub returns-in-Err : goal.returns-in-Err
returns-in-Err g c =
    input_fault c.loop-input.bytes.items c.turn.new.bytes.items (g.I.Source.state c.args.input.now) (g.I.Source.state c.loop-input.input) (g.I.Source.state c.turn.new.input) c.in-Err.fault c.loop-input.invariant c.in-Err.ensures
