use Rattle.std.proofs.Common.{sym}
use Rattle.machine_words.specs.cil_closing.Callees.{accessed_by}
use Rattle.machine_objects.proofs.lemmas.cil_fields.ReadyFields.{was_begun, first_begun}
use Rattle.machine_objects.proofs.cil_fields.statics.begun_static.Goals as goal

pub returns-in-Some : goal.returns-in-Some
returns-in-Some g c = was_begun _ (accessed_by c.args.a.now) c.args.ty.now c.args.st.now _ (sym c.in-Some.ensures)

pub returns-in_ok-over-in-None : goal.returns-in_ok-over-in-None
returns-in_ok-over-in-None g c = first_begun _ (accessed_by c.args.a.now) c.args.ty.now c.args.st.now c.first_value.new.st c.in_ok-over-in-None.over (sym c.in-None.ensures) c.in_ok-over-in-None.ensures
