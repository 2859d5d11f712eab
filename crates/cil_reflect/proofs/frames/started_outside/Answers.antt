use Rattle.std.proofs.Common.{◌≡◌, ◌∙◌, sym, subst, true, []}
use Rattle.std.specs.Prelude.{IfOk, MatchOption}
use Rattle.il_base.specs.declared.cil_values.state.State.{State}
use Rattle.rules.specs.step_rules.Next.{Next}
use Rattle.rules.specs.step_rules.Frames.{started}
use Rattle.rules.specs.step_rules.CoreWords.{before_call, caller_in}
use Rattle.machine_words.specs.cil_words.Steps.{next_of}
use Rattle.cil_reflect.proofs.lemmas.Plain.{alone}
use Rattle.cil_reflect.proofs.frames.started_outside.Goals as goal

pub returns-in_default : goal.returns-in_default
returns-in_default g c =
    let q = g.Q.Answers.queries c.args.q.now in
    let s = c.args.st.now in
    let none : c.pop.new.self ≡ s.below = c.in_default.ensures.1 ∙ sym c.in_default.ensures.0 in
    let as_it_was : record s { below = c.pop.new.self } ≡ s = λ i. record s { below = none i } in
    let outside : record s { below = c.pop.new.self } ≡ caller_in s = as_it_was ∙ sym (alone s c.in_default.ensures.0) in
    subst (λ (p : State × State). IfOk c.started_with.result (λ over. MatchOption over ((c.started_with.new.st ≡ p.0) × ((f : State → Next) → started q true c.args.ty.now (before_call c.args.back.now p.1) f ≡ f (before_call c.args.back.now p.1)))
    (λ out. (f : State → Next) → started q true c.args.ty.now (before_call c.args.back.now p.1) f ≡ next_of out c.started_with.new.st [])))
    (λ i. (as_it_was i, outside i)) c.started_with.ensures
