use Rattle.machine_words.specs.cil_words.Steps.{here_by}
use Rattle.cil_machine.proofs.Simple.{on_two}
use Rattle.cil_machine.proofs.quiet.branches.on_two.Goals as goal

pub returns : goal.returns
returns c =
    on_two (here_by c.args.body.now c.args.st.now) c.args.i.now c.args.to c.target.result c.args.st.now c.jumps_with_two.new.st c.in-Some-next_operand.a.now c.in-Some.b.now _ _ c.in-Some-holds.yes c.jumps_with_two.result
    c.in-Some.ensures c.in-Some-next_operand.ensures c.in-Some-holds.ensures c.target.ensures c.jumps_with_two.ensures
