use Rattle.std.proofs.Common.{◌∷◌, sym}
use Rattle.machine_words.specs.cil_words.Steps.{here_by}
use Rattle.machine_words.specs.cil_closing.Callees.{accessed_by}
use Rattle.machine_numbers.specs.cil_pointers.Reaching.{with_stack}
use Rattle.machine_objects.specs.cil_fields.Structs.{parts_by}
use Rattle.machine_objects.proofs.lemmas.cil_fields.Chosen.{load_struct, load_plain}
use Rattle.machine_objects.proofs.cil_fields.fields.load_field.Goals as goal

pub returns-in_ok-out-in-Some : goal.returns-in_ok-out-in-Some
returns-in_ok-out-in-Some g c =
    let s = c.args.st.now in
    let vs = c.args.r ∷ s.top.stack in
    load_struct (g.Q.Answers.queries c.args.q.now) (here_by c.args.body.now s) c.args.i.now (accessed_by c.args.a.now) c.args.r s.top.stack (with_stack vs s) _ (parts_by c.in-Some.p) (sym c.in-Some.ensures) (c.in_ok-out-in-Some.ensures vs)

pub returns-in_ok-other-in-None : goal.returns-in_ok-other-in-None
returns-in_ok-other-in-None g c =
    let s = c.args.st.now in
    let vs = c.args.r ∷ s.top.stack in
    load_plain (g.Q.Answers.queries c.args.q.now) (here_by c.args.body.now s) c.args.i.now (accessed_by c.args.a.now) c.args.r s.top.stack (with_stack vs s) _ (sym c.in-None.ensures) c.in_ok-other-in-None.ensures
