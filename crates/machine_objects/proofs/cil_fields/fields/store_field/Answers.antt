use Rattle.std.proofs.Common.{List, ◌∷◌, ap, ◌∙◌}
use Rattle.il_base.specs.declared.cil_values.value.Value.{Value}
use Rattle.il_base.specs.declared.cil_values.path.Path.{Path}
use Rattle.rules.specs.step_rules.Next.{Next}
use Rattle.machine_words.specs.cil_words.Steps.{here_by}
use Rattle.machine_numbers.specs.cil_pointers.Reaching.{with_stack}
use Rattle.rules.specs.step_rules.Words.{given, goes}
use Rattle.rules.specs.step_rules.Stores.{fits}
use Rattle.rules.specs.step_rules.Places.{put_at}
use Rattle.machine_numbers.proofs.lemmas.cil_pointers.Reaching.{at_place, raised, gone, refused}
use Rattle.machine_objects.proofs.cil_fields.fields.store_field.Goals as goal

pub returns-in_ok-out-in-At : goal.returns-in_ok-out-in-At
returns-in_ok-out-in-At g c =
    let q = g.Q.Answers.queries c.args.q.now in
    let s = c.args.st.now in
    let here = here_by c.args.body.now s in
    let stack = s.top.stack in
    let vs : List Value = c.args.v ∷ c.args.r ∷ stack in
    let f : Path → Value → Next = λ p old. given (fits q p.of c.args.v) (with_stack vs s) (λ w. put_at q p w (with_stack vs s) (goes here c.args.i.now stack)) in
    let on = c.in_ok-found.ensures vs f in
    at_place q c.in_ok-found.found s vs f _ on c.in-At.p c.in-At.old _ c.in-At.is (c.in_ok-out-in-At.ensures vs)

pub returns-in_ok-raised-in-Null : goal.returns-in_ok-raised-in-Null
returns-in_ok-raised-in-Null g c =
    let q = g.Q.Answers.queries c.args.q.now in
    let s = c.args.st.now in
    let here = here_by c.args.body.now s in
    let stack = s.top.stack in
    let vs : List Value = c.args.v ∷ c.args.r ∷ stack in
    let f : Path → Value → Next = λ p old. given (fits q p.of c.args.v) (with_stack vs s) (λ w. put_at q p w (with_stack vs s) (goes here c.args.i.now stack)) in
    let on = c.in_ok-found.ensures vs f in
    raised q c.in_ok-found.found s vs f _ on _ _ c.in-Null.is (c.in_ok-push-in-Null-2.ensures.ok ∙ ap (λ (xs : List Value). c.args.v ∷ xs) c.in_ok-push-in-Null.ensures.ok) c.in_ok-raised-in-Null.ensures

pub returns-in-Gone : goal.returns-in-Gone
returns-in-Gone g c =
    let q = g.Q.Answers.queries c.args.q.now in
    let s = c.args.st.now in
    let here = here_by c.args.body.now s in
    let stack = s.top.stack in
    let vs : List Value = c.args.v ∷ c.args.r ∷ stack in
    let f : Path → Value → Next = λ p old. given (fits q p.of c.args.v) (with_stack vs s) (λ w. put_at q p w (with_stack vs s) (goes here c.args.i.now stack)) in
    let on = c.in_ok-found.ensures vs f in
    gone q c.in_ok-found.found s vs f _ on c.stopped.result s c.in-Gone.is c.stopped.ensures

pub returns-in-Refused : goal.returns-in-Refused
returns-in-Refused g c =
    let q = g.Q.Answers.queries c.args.q.now in
    let s = c.args.st.now in
    let here = here_by c.args.body.now s in
    let stack = s.top.stack in
    let vs : List Value = c.args.v ∷ c.args.r ∷ stack in
    let f : Path → Value → Next = λ p old. given (fits q p.of c.args.v) (with_stack vs s) (λ w. put_at q p w (with_stack vs s) (goes here c.args.i.now stack)) in
    let on = c.in_ok-found.ensures vs f in
    refused q c.in_ok-found.found s vs f _ on c.stuck.result s c.in-Refused.is c.stuck.ensures
