use Rattle.std.proofs.Common.{◌≡◌, ℕ, length}
use Rattle.link_faults.specs.Graphs.{next_in}
use Rattle.link_faults.proofs.nesting.grow.Given as goal

abbrev pub invariant-loop-count : goal.invariant-loop-count
invariant-loop-count l = record {
  same : (node : ℕ) → next_in l.graph.items node ≡ next_in l.initial.graph.items node;
  as_many : length l.graph.items ≡ l._count;
}
