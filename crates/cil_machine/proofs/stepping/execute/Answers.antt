use Rattle.il_base.specs.declared.body.Form.TheVariants as form
use Rattle.rules.specs.step_rules.Step.{effect}
use Rattle.machine_words.specs.cil_words.Steps.{here_by}
use Rattle.cil_machine.proofs.ByForm.{by_form}
use Rattle.cil_machine.proofs.stepping.execute.Goals as goal

pub returns-in_ok-nop-in-Nop : goal.returns-in_ok-nop-in-Nop
unfolding effect
returns-in_ok-nop-in-Nop g c =
    by_form (g.Q.Answers.queries c.args.q.now) (here_by c.args.body.now c.args.st.now) c.args.i.now c.args.st.now c.nop.new.st c.in_ok-nop-in-Nop.field-0 c.args.printed.now.items form.Nop c.requires c.in-Nop.is (c.in_ok-nop-in-Nop.ensures (g.Q.Answers.queries c.args.q.now))

pub returns-in_ok-load_arg-in-LdArg : goal.returns-in_ok-load_arg-in-LdArg
unfolding effect
returns-in_ok-load_arg-in-LdArg g c =
    by_form (g.Q.Answers.queries c.args.q.now) (here_by c.args.body.now c.args.st.now) c.args.i.now c.args.st.now c.load_arg.new.st c.in_ok-load_arg-in-LdArg.field-0 c.args.printed.now.items form.LdArg c.requires c.in-LdArg.is (c.in_ok-load_arg-in-LdArg.ensures (g.Q.Answers.queries c.args.q.now))

pub returns-in_ok-load_local-in-LdLoc : goal.returns-in_ok-load_local-in-LdLoc
unfolding effect
returns-in_ok-load_local-in-LdLoc g c =
    by_form (g.Q.Answers.queries c.args.q.now) (here_by c.args.body.now c.args.st.now) c.args.i.now c.args.st.now c.load_local.new.st c.in_ok-load_local-in-LdLoc.field-0 c.args.printed.now.items form.LdLoc c.requires c.in-LdLoc.is (c.in_ok-load_local-in-LdLoc.ensures (g.Q.Answers.queries c.args.q.now))

pub returns-in_ok-load_null-in-LdNull : goal.returns-in_ok-load_null-in-LdNull
unfolding effect
returns-in_ok-load_null-in-LdNull g c =
    by_form (g.Q.Answers.queries c.args.q.now) (here_by c.args.body.now c.args.st.now) c.args.i.now c.args.st.now c.load_null.new.st c.in_ok-load_null-in-LdNull.field-0 c.args.printed.now.items form.LdNull c.requires c.in-LdNull.is (c.in_ok-load_null-in-LdNull.ensures (g.Q.Answers.queries c.args.q.now))

pub returns-in_ok-load_int32-in-LdI4 : goal.returns-in_ok-load_int32-in-LdI4
unfolding effect
returns-in_ok-load_int32-in-LdI4 g c =
    by_form (g.Q.Answers.queries c.args.q.now) (here_by c.args.body.now c.args.st.now) c.args.i.now c.args.st.now c.load_int32.new.st c.in_ok-load_int32-in-LdI4.field-0 c.args.printed.now.items form.LdI4 c.requires c.in-LdI4.is (c.in_ok-load_int32-in-LdI4.ensures (g.Q.Answers.queries c.args.q.now))

pub returns-in_ok-load_int64-in-LdI8 : goal.returns-in_ok-load_int64-in-LdI8
unfolding effect
returns-in_ok-load_int64-in-LdI8 g c =
    by_form (g.Q.Answers.queries c.args.q.now) (here_by c.args.body.now c.args.st.now) c.args.i.now c.args.st.now c.load_int64.new.st c.in_ok-load_int64-in-LdI8.field-0 c.args.printed.now.items form.LdI8 c.requires c.in-LdI8.is (c.in_ok-load_int64-in-LdI8.ensures (g.Q.Answers.queries c.args.q.now))

pub returns-in_ok-duplicate-in-Dup : goal.returns-in_ok-duplicate-in-Dup
unfolding effect
returns-in_ok-duplicate-in-Dup g c =
    by_form (g.Q.Answers.queries c.args.q.now) (here_by c.args.body.now c.args.st.now) c.args.i.now c.args.st.now c.duplicate.new.st c.in_ok-duplicate-in-Dup.field-0 c.args.printed.now.items form.Dup c.requires c.in-Dup.is (c.in_ok-duplicate-in-Dup.ensures (g.Q.Answers.queries c.args.q.now))

pub returns-in_ok-pop-in-Pop : goal.returns-in_ok-pop-in-Pop
unfolding effect
returns-in_ok-pop-in-Pop g c =
    by_form (g.Q.Answers.queries c.args.q.now) (here_by c.args.body.now c.args.st.now) c.args.i.now c.args.st.now c.pop.new.st c.in_ok-pop-in-Pop.field-0 c.args.printed.now.items form.Pop c.requires c.in-Pop.is (c.in_ok-pop-in-Pop.ensures (g.Q.Answers.queries c.args.q.now))

pub returns-in_ok-branch-in-Br : goal.returns-in_ok-branch-in-Br
unfolding effect
returns-in_ok-branch-in-Br g c =
    by_form (g.Q.Answers.queries c.args.q.now) (here_by c.args.body.now c.args.st.now) c.args.i.now c.args.st.now c.branch-body.new.st c.in_ok-branch-in-Br.field-0 c.args.printed.now.items form.Br c.requires c.in-Br.is (c.in_ok-branch-in-Br.ensures (g.Q.Answers.queries c.args.q.now))

pub returns-in_ok-branch_if-in-BrIf : goal.returns-in_ok-branch_if-in-BrIf
unfolding effect
returns-in_ok-branch_if-in-BrIf g c =
    by_form (g.Q.Answers.queries c.args.q.now) (here_by c.args.body.now c.args.st.now) c.args.i.now c.args.st.now c.branch_if.new.st c.in_ok-branch_if-in-BrIf.field-0 c.args.printed.now.items form.BrIf c.requires c.in-BrIf.is (c.in_ok-branch_if-in-BrIf.ensures (g.Q.Answers.queries c.args.q.now))

pub returns-in_ok-switch-in-Switch : goal.returns-in_ok-switch-in-Switch
unfolding effect
returns-in_ok-switch-in-Switch g c =
    by_form (g.Q.Answers.queries c.args.q.now) (here_by c.args.body.now c.args.st.now) c.args.i.now c.args.st.now c.switch.new.st c.in_ok-switch-in-Switch.field-0 c.args.printed.now.items form.Switch c.requires c.in-Switch.is (c.in_ok-switch-in-Switch.ensures (g.Q.Answers.queries c.args.q.now))

pub returns-in_ok-unary-in-Unary : goal.returns-in_ok-unary-in-Unary
unfolding effect
returns-in_ok-unary-in-Unary g c =
    by_form (g.Q.Answers.queries c.args.q.now) (here_by c.args.body.now c.args.st.now) c.args.i.now c.args.st.now c.unary.new.st c.in_ok-unary-in-Unary.field-0 c.args.printed.now.items form.Unary c.requires c.in-Unary.is (c.in_ok-unary-in-Unary.ensures (g.Q.Answers.queries c.args.q.now))
