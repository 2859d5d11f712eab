use Rattle.std.proofs.Common.{◌∷◌}
use Rattle.rules.specs.step_rules.Fields.{is_static}
use Rattle.machine_words.specs.cil_closing.Callees.{accessed_by}
use Rattle.machine_objects.proofs.lemmas.cil_fields.Chosen.{chosen, otherwise}
use Rattle.machine_objects.proofs.cil_fields.fields.store_with.Goals as goal

pub returns-in_ok-out : goal.returns-in_ok-out
returns-in_ok-out g c = chosen (is_static (accessed_by c.args.a.now)) c.is_static.result _ _ _ c.is_static.ensures c.if-is_static.true (c.in_ok-out.ensures (c.args.v ∷ c.args.r ∷ c.args.st.now.top.stack))

pub returns-in_ok-other : goal.returns-in_ok-other
returns-in_ok-other g c = otherwise (is_static (accessed_by c.args.a.now)) c.is_static.result _ _ _ c.is_static.ensures c.if-is_static.false c.in_ok-other.ensures
