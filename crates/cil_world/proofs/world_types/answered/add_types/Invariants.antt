use Rattle.cil_world.specs.world_types.Answered.{AreAnswers, AreLed}
use Rattle.cil_world.proofs.world_types.answered.add_types.Given as goal

abbrev pub invariant-loop-t : goal.invariant-loop-t
invariant-loop-t l = AreAnswers l.tables.world.now.recs l.answered.answers.items × AreLed l.tables.world.now.recs l.answered.led.items
