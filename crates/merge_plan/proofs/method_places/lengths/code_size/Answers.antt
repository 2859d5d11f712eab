use Rattle.std.proofs.Common.{arith}
use Rattle.merge_plan.proofs.lemmas.method_places.Sizing.{code_done}
use Rattle.merge_plan.proofs.method_places.lengths.code_size.Goals as goal

pub returns : goal.returns
returns c = code_done c.loop-instr.size c.loop-instr.instr-index c.args.code.now (omega arith) c.loop-instr.invariant.size
