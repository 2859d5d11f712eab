use Rattle.std.proofs.Common.{sym}
use Rattle.rules.specs.step_rules.CoreTypes.{typed, type_object}
use Rattle.machine_words.proofs.cil_objects.type_objects.typed.Goals as goal

pub returns-in_ok-made-in-None : goal.returns-in_ok-made-in-None
unfolding typed type_object
returns-in_ok-made-in-None c f = rw (sym c.in-None.ensures) (c.in_ok-made-in-None.ensures f)
