use Rattle.cil_world.specs.world_types.Answered.{AreAnswers}
use Rattle.cil_world.proofs.world_types.answered.add_methods.Given as goal

abbrev pub invariant-loop-n : goal.invariant-loop-n
invariant-loop-n l = AreAnswers l.tables.world.now.recs l.answers.items
