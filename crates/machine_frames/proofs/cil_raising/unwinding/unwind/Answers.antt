use Rattle.std.proofs.Common.{◌≡◌, [], sym, ap, subst, ◌∙◌, eq-eqb, ne_eqb}
use Rattle.std.specs.Prelude.{IfOk}
use Rattle.il_base.specs.declared.cil_values.frame.Unwinding.{Unwinding}
use Rattle.rules.specs.step_rules.Next.{Next}
use Rattle.rules.specs.step_rules.Raising.{unwind_to, outer, outside}
use Rattle.machine_words.specs.cil_words.Steps.{next_of}
use Rattle.machine_frames.proofs.lemmas.cil_raising.Ways.{ends, no_body, out_of_member, next_one, catches_it, none_below, goes_out}
use Rattle.machine_frames.proofs.cil_raising.unwinding.unwind.Goals as goal

pub returns-in_default-pop : goal.returns-in_default-pop
returns-in_default-pop g c =
    ends _ _ _ c.stuck.ensures
    ∙ sym (no_body (g.Q.Answers.queries c.args.q.now) c.loop-body.u c.loop-body.st c.in_default.ensures)
    ∙ ap (unwind_to (g.Q.Answers.queries c.args.q.now) c.loop-body.u c.loop-body.st) (sym c.in_default-pop.ensures.0)
    ∙ c.loop-body.invariant

pub loop-body-preserved-in_default : goal.loop-body-preserved-in_default
loop-body-preserved-in_default g c =
    let q = g.Q.Answers.queries c.args.q.now in
    let f = c.in-Some-pop.f in
    let fs = c.pop.new.self in
    let next : c.in_ok-u.u ≡ outer q c.loop-body.st c.loop-body.u f = c.in_ok-u.ensures.next in
    let left : c.leave_frame.new.st ≡ outside c.loop-body.st c.loop-body.u f fs = c.in_ok-u.ensures.left in
    (λ i. unwind_to q (next i) (left i) (left i).below)
    ∙ sym (out_of_member q c.loop-body.u c.loop-body.st f fs c.in_default.ensures)
    ∙ ap (unwind_to q c.loop-body.u c.loop-body.st) (sym c.in-Some-pop.ensures)
    ∙ c.loop-body.invariant

pub returns-in-Some-pop-2 : goal.returns-in-Some-pop-2
returns-in-Some-pop-2 g c =
    subst (λ (x : Next). IfOk c.handler_begins.result (λ out. next_of out c.handler_begins.new.st [] ≡ x))
    (rw c.new-stack.ensures (sym (next_one (g.Q.Answers.queries c.args.q.now) c.loop-body.u c.loop-body.st c.in-Some.body.method.now c.in-Some.body.code.now c.in-Some.ensures c.loop-body.st.below c.in-Some-pop-2.n c.pop-in-loop-body.new.self c.in-Some-pop-2.ensures) ∙ c.loop-body.invariant))
    c.handler_begins.ensures

pub returns-then-st-u : goal.returns-then-st-u
returns-then-st-u g c =
    subst (λ (x : Next). IfOk c.handler_begins-then-st-u.result (λ out. next_of out c.handler_begins-then-st-u.new.st [] ≡ x))
    (rw (c.in_ok-push.ensures.ok, c.new-stack-then-st-u.ensures) (sym (catches_it (g.Q.Answers.queries c.args.q.now) c.loop-body.u c.loop-body.st c.in-Some.body.method.now c.in-Some.body.code.now c.in-Some.ensures c.loop-body.st.below c.in_default-pop-2.ensures.0 (eq-eqb c.loop-body.st.top.number c.loop-body.u.frame c.if-st-u.true)) ∙ c.loop-body.invariant))
    c.handler_begins-then-st-u.ensures

pub returns-in_default-pop-3 : goal.returns-in_default-pop-3
returns-in_default-pop-3 g c =
    ends _ _ _ c.stuck-in_default-pop-3.ensures
    ∙ sym (none_below (g.Q.Answers.queries c.args.q.now) c.loop-body.u c.loop-body.st c.in-Some.body.method.now c.in-Some.body.code.now c.in-Some.ensures c.in_default-pop-2.ensures.0 (ne_eqb c.loop-body.st.top.number c.loop-body.u.frame c.if-st-u.false))
    ∙ ap (unwind_to (g.Q.Answers.queries c.args.q.now) c.loop-body.u c.loop-body.st) (sym c.in_default-pop-3.ensures.0)
    ∙ c.loop-body.invariant

pub loop-body-preserved : goal.loop-body-preserved
loop-body-preserved g c =
    let q = g.Q.Answers.queries c.args.q.now in
    let f = c.in-Some-pop-3.f in
    let fs = c.pop-in-loop-body-2.new.self in
    let same : record c.loop-body.u { left = c.pop-in-loop-body.new.self } ≡ c.loop-body.u = λ i. record c.loop-body.u { left = (c.in_default-pop-2.ensures.1 ∙ sym c.in_default-pop-2.ensures.0) i } in
    let next : c.in_ok-u-2.u ≡ outer q c.loop-body.st c.loop-body.u f = c.in_ok-u-2.ensures.next ∙ ap (λ (u : Unwinding). outer q c.loop-body.st u f) same in
    let left : c.leave_frame-in-loop-body.new.st ≡ outside c.loop-body.st c.loop-body.u f fs = c.in_ok-u-2.ensures.left ∙ ap (λ (u : Unwinding). outside c.loop-body.st u f fs) same in
    (λ i. unwind_to q (next i) (left i) (left i).below)
    ∙ sym (goes_out q c.loop-body.u c.loop-body.st c.in-Some.body.method.now c.in-Some.body.code.now c.in-Some.ensures f fs c.in_default-pop-2.ensures.0 (ne_eqb c.loop-body.st.top.number c.loop-body.u.frame c.if-st-u.false))
    ∙ ap (unwind_to q c.loop-body.u c.loop-body.st) (sym c.in-Some-pop-3.ensures)
    ∙ c.loop-body.invariant
