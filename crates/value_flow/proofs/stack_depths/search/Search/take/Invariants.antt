use Rattle.value_flow.specs.stack_depths.Search.{Takes}
use Rattle.value_flow.proofs.stack_depths.search.Search.take.Given as goal

abbrev pub invariant-loop-s : goal.invariant-loop-s
invariant-loop-s l = Takes l.d l.e l.s-index l.initial.self l.self
