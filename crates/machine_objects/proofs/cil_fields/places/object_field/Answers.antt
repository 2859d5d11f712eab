use Rattle.std.proofs.Common.{sym, ap, ◌∙◌}
use Rattle.il_base.specs.declared.cil_values.object.Obj.{Obj}
use Rattle.rules.specs.step_rules.Fields.{object_field}
use Rattle.machine_words.specs.cil_closing.Callees.{accessed_by}
use Rattle.machine_objects.proofs.cil_fields.places.object_field.Goals as goal

pub returns-in_ok-p-in-Instance : goal.returns-in_ok-p-in-Instance
returns-in_ok-p-in-Instance g c =
    c.in_ok-p-in-Instance.ensures c.in-Instance.cells
    ∙ sym (ap (λ (o : Obj). object_field (g.Q.Answers.queries c.args.q.now) (accessed_by c.args.a.now) c.args.at o) c.in-Instance.is)
