use Rattle.std.proofs.Common.{List, [], sym, ap, subst, ◌∙◌, ℕ}
use Rattle.il_base.specs.declared.world_model.known.Known.{Known}
use Rattle.il_base.specs.declared.world_model.known.Known.TheVariants as known
use Rattle.il_base.specs.declared.cil_values.definition.First.TheVariants as first
use Rattle.machine_words.specs.declared.cil_words.step_out.StepOut.{StepOut}
use Rattle.machine_words.specs.cil_words.Steps.{next_of}
use Rattle.rules.specs.step_rules.Fields.{first_value}
use Rattle.machine_words.specs.cil_closing.Callees.{accessed_by}
use Rattle.machine_numbers.specs.cil_pointers.Reaching.{with_stack}
use Rattle.machine_objects.proofs.lemmas.cil_fields.ReadyFields.{BeginsFirst, first_is}
use Rattle.machine_objects.proofs.cil_fields.statics.begins_told.Goals as goal

pub returns-in_ok-over-in-Good : goal.returns-in_ok-over-in-Good
returns-in_ok-over-in-Good g c =
    let q = g.Q.Answers.queries c.args.q.now in
    let a = accessed_by c.args.a.now in
    let s = c.args.st.now in
    let t = c.begins_bytes.new.st in
    let over = c.in_ok-over-in-Good.over in
    let P : List ℕ → Type 0 = λ x. BeginsFirst q a c.args.ty.now s t over (first.Bytes (known.Good x)) in
    let begins : BeginsFirst q a c.args.ty.now s t over (first.Bytes (known.Good c.in-Good.told)) = subst P c.as_slice.ensures c.in_ok-over-in-Good.ensures in
    first_is q a c.args.ty.now s t over _ _ (ap (λ (k : Known (List ℕ)). first.Bytes k) c.in-Good.is) begins

pub returns-in-Bad : goal.returns-in-Bad
returns-in-Bad g c = λ vs f.
    let s = c.args.st.now in
    ap (λ (k : Known (List ℕ)). first_value (g.Q.Answers.queries c.args.q.now) (accessed_by c.args.a.now) (with_stack vs s) f c.args.ty.now (first.Bytes k)) c.in-Bad.is
    ∙ sym (ap (λ (x : StepOut). next_of x s []) c.stopped.ensures)
