use Rattle.value_flow.specs.stack_depths.Search.{IsSearch, work_left}
use Rattle.value_flow.proofs.stack_depths.search.depths.Given as goal

abbrev pub invariant-loop-at : goal.invariant-loop-at
invariant-loop-at l = IsSearch l.exits l.most l.search

abbrev pub decreases-loop-at : goal.decreases-loop-at
decreases-loop-at l = work_left l.search
