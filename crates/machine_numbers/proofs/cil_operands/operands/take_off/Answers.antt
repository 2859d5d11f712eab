use Rattle.machine_numbers.proofs.lemmas.cil_operands.Drops.{one_more}
use Rattle.machine_numbers.proofs.cil_operands.operands.take_off.Goals as goal

pub loop-preserved : goal.loop-preserved
loop-preserved c = one_more c.args.stack.now c.loop.counter _ _ _ c.loop.invariant c.pop.ensures
