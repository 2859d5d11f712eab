use Rattle.std.proofs.Common.{◌≡◌, ◌++◌, length}
use Rattle.type_names.specs.Chains.{inner_names}
use Rattle.keep_lists.proofs.chain.put_inner.Given as goal

abbrev pub invariant-loop-left : goal.invariant-loop-left
invariant-loop-left l = l.out ++ inner_names l.rec l.left ≡ l.initial.out ++ inner_names l.rec l.fn.inner

abbrev pub decreases-loop-left : goal.decreases-loop-left
decreases-loop-left l = length l.left
