use Rattle.machine_words.specs.cil_closing.Callees.{accessed_by}
use Rattle.machine_objects.proofs.lemmas.cil_fields.ReadyFields.{first_is}
use Rattle.machine_objects.proofs.cil_fields.statics.first_value.Goals as goal

pub returns-in_ok-empty-in-EmptyText : goal.returns-in_ok-empty-in-EmptyText
returns-in_ok-empty-in-EmptyText g c = first_is (g.Q.Answers.queries c.args.q.now) (accessed_by c.args.a.now) c.args.ty.now c.args.st.now c.begins_empty.new.st c.in_ok-empty-in-EmptyText.empty _ _ c.in-EmptyText.is c.in_ok-empty-in-EmptyText.ensures

pub returns-in_ok-zero-in-Blank : goal.returns-in_ok-zero-in-Blank
returns-in_ok-zero-in-Blank g c = first_is (g.Q.Answers.queries c.args.q.now) (accessed_by c.args.a.now) c.args.ty.now c.args.st.now c.begins_zero.new.st c.in_ok-zero-in-Blank.zero _ _ c.in-Blank.is c.in_ok-zero-in-Blank.ensures

pub returns-in_ok-told-in-Bytes : goal.returns-in_ok-told-in-Bytes
returns-in_ok-told-in-Bytes g c = first_is (g.Q.Answers.queries c.args.q.now) (accessed_by c.args.a.now) c.args.ty.now c.args.st.now c.begins_told.new.st c.in_ok-told-in-Bytes.told _ _ c.in-Bytes.is c.in_ok-told-in-Bytes.ensures
