use Rattle.std.proofs.Common.{not}
use Rattle.machine_words.specs.cil_words.Steps.{here_by}
use Rattle.cil_machine.proofs.Simple.{on_one}
use Rattle.cil_machine.proofs.quiet.branches.on_false.Goals as goal

pub returns : goal.returns
returns c =
    on_one (here_by c.args.body.now c.args.st.now) c.args.i.now c.args.to c.target.result c.args.st.now c.jumps_with_one.new.st not c.in-Some.v.now _ c.in-Some-truth.yes c.jumps_with_one.result
    c.in-Some.ensures c.in-Some-truth.ensures c.target.ensures c.jumps_with_one.ensures
