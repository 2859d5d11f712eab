use Rattle.machine_words.specs.cil_words.Steps.{here_by}
use Rattle.cil_machine.proofs.Simple.{of_one}
use Rattle.cil_machine.proofs.quiet.numbers.convert.Goals as goal

pub returns : goal.returns
returns c = λ q.
    of_one q (here_by c.args.body.now c.args.st.now) c.args.i.now c.args.st.now c.gives_for_one.new.st c.in-Some.v.now c.in-Some-converted.w _ c.in_ok-went.went
    c.in-Some.ensures c.in-Some-converted.ensures c.in_ok-went.ensures
