use Rattle.cil_world.specs.world_types.Answered.{AreAnswers}
use Rattle.cil_world.proofs.world_types.answered.add_owners.Given as goal

abbrev pub invariant-loop-owner : goal.invariant-loop-owner
invariant-loop-owner l = AreAnswers l.tables.world.now.recs l.answers.items
