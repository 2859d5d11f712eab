use Rattle.std.proofs.Common.{◌∷◌, sym, ap, ◌∙◌}
use Rattle.std.specs.Prelude.{Option}
use Rattle.il_base.specs.declared.cil_values.value.Value.{Value}
use Rattle.rules.specs.step_rules.Words.{had, popped}
use Rattle.rules.specs.step_rules.Stores.{Access, access_of}
use Rattle.machine_words.specs.cil_words.Steps.{here_by}
use Rattle.machine_numbers.specs.cil_pointers.Reaching.{with_stack}
use Rattle.machine_numbers.proofs.lemmas.cil_pointers.Popping.{popped_one}
use Rattle.cil_indirect.specs.Accessing.{store_over}
use Rattle.cil_indirect.proofs.storing.init_by.Goals as goal

pub returns : goal.returns
returns g c =
    let q = g.Q.Answers.queries c.args.q.now in
    let s = c.args.st.now in
    let here = here_by c.args.body.now s in
    let access = access_of q c.args.ty.now in
    let on = c.in_ok-out.ensures ∙ ap (λ (x : Access). store_over q here c.args.i.now x c.in-Some-pop.r c.in-Some.zero c.pop.new.self (with_stack (c.in-Some-pop.r ∷ c.pop.new.self) s)) c.in_ok-a.ensures in
    popped_one s (λ r stack x. store_over q here c.args.i.now access r c.in-Some.zero stack x) c.in-Some-pop.r _ _ c.in-Some-pop.ensures on
    ∙ sym (ap (λ (o : Option Value). had o s (λ zero. popped s.top.stack s (λ r stack. store_over q here c.args.i.now access r zero stack s))) (sym c.in_ok-found.ensures ∙ c.in-Some.is))
