use Rattle.std.proofs.Common.{◌≡◌, ◌++◌, length}
use Rattle.descriptor_texts.specs.slashed_names.Chains.{inner_names}
use Rattle.descriptor_texts.proofs.slashed_names.chain.put_inner.Given as goal

abbrev pub invariant-loop-left : goal.invariant-loop-left
invariant-loop-left l = l.out ++ inner_names l.rec l.left ≡ l.initial.out ++ inner_names l.rec l.fn.inner

abbrev pub decreases-loop-left : goal.decreases-loop-left
decreases-loop-left l = length l.left
