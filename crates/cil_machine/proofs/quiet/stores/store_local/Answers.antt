use Rattle.std.proofs.Common.{sym, ◌∙◌}
use Rattle.machine_words.specs.cil_words.Steps.{here_by}
use Rattle.cil_machine.proofs.Simple.{stores}
use Rattle.cil_machine.proofs.quiet.stores.store_local.Goals as goal

pub returns : goal.returns
returns g c =
    let fit = rw c.in-Some-2.is at c.in_ok-v.ensures in
    stores (g.Q.Answers.queries c.args.q.now) (here_by c.args.body.now c.args.st.now) c.args.i.now c.args.st.now c.puts_local.new.st c.in-Slot.at c.in-Good.types c.in-Some.ty.now c.in-Some-get.field-0.now c.in-Some-operand.top.now c.in-Some-2.v _
    c.in-Slot.is c.in-Good.is (sym c.in-Some.ensures.value) (sym c.in-Some-get.ensures.value) c.in-Some-operand.ensures fit (sym c.may_go.ensures ∙ c.if-not-may_go.false) c.puts_local.ensures
