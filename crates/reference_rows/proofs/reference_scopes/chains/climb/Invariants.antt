use Rattle.std.proofs.Common.{◌≡◌, ◌-◌, ◌++◌, reverse}
use Rattle.rules.specs.merge_rules.Refs.{with_scopes}
use Rattle.reference_rows.proofs.reference_scopes.chains.climb.Given as goal

abbrev pub invariant-loop-i : goal.invariant-loop-i
invariant-loop-i l =
    with_scopes l.references.index.now.all.now (l.most - l.i) l.at ++ reverse l.inner.items ≡ with_scopes l.references.index.now.all.now l.most l.fn.id ++ reverse l.initial.inner.items
