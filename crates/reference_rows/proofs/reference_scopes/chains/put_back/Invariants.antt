use Rattle.std.proofs.Common.{◌≡◌, ◌++◌, reverse, vec_len}
use Rattle.reference_rows.proofs.reference_scopes.chains.put_back.Given as goal

abbrev pub invariant-loop-id : goal.invariant-loop-id
invariant-loop-id l = l.types.items ++ reverse l.left.items ≡ l.initial.types.items ++ reverse l.fn.inner.items

abbrev pub decreases-loop-id : goal.decreases-loop-id
decreases-loop-id l = vec_len l.left
