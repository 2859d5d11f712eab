use Rattle.std.proofs.Common.{sym, ap, ◌∙◌}
use Rattle.il_base.specs.declared.cil_values.state.State.{State}
use Rattle.machine_words.specs.cil_closing.Callees.{accessed_by}
use Rattle.machine_numbers.specs.cil_pointers.Reaching.{with_stack}
use Rattle.machine_objects.proofs.lemmas.cil_fields.Texts.{same_top, begun_empty, ended_empty}
use Rattle.machine_objects.proofs.cil_fields.statics.begins_empty.Goals as goal

pub returns-in-None : goal.returns-in-None
returns-in-None c = λ vs f.
    rw c.stopped-end.ensures (ended_empty (accessed_by c.args.a.now) c.args.st.now _ _ c.in_ok-made.made c.new.ensures c.in_ok-made.ensures c.in-None.is vs f)

pub returns-in_ok-with_value-in-Some : goal.returns-in_ok-with_value-in-Some
returns-in_ok-with_value-in-Some c = (
  ap (λ (x : State). x.top) c.in_ok-with_value-in-Some.ensures
      ∙ same_top (accessed_by c.args.a.now) c.args.st.now _ _ c.in_ok-made.made c.new.ensures c.in_ok-made.ensures c.in-Some.o c.in-Some.is,
  λ vs f.
      begun_empty (accessed_by c.args.a.now) c.args.st.now _ _ c.in_ok-made.made c.new.ensures c.in_ok-made.ensures c.in-Some.o c.in-Some.is vs f
      ∙ sym (ap (λ (x : State). f (with_stack vs x)) c.in_ok-with_value-in-Some.ensures),
)
