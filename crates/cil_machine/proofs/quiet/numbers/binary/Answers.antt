use Rattle.machine_words.specs.cil_words.Steps.{here_by}
use Rattle.cil_machine.proofs.Simple.{of_two}
use Rattle.cil_machine.proofs.quiet.numbers.binary.Goals as goal

pub returns : goal.returns
returns c = λ q.
    of_two q (here_by c.args.body.now c.args.st.now) c.args.i.now c.args.st.now c.gives_for_two.new.st c.in-Some-next_operand.a.now c.in-Some.b.now c.in-Some-computed.v _ _ c.in_ok-went.went
    c.in-Some.ensures c.in-Some-next_operand.ensures c.in-Some-computed.ensures c.in_ok-went.ensures
