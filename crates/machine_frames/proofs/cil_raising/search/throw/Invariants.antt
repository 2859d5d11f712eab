use Rattle.std.proofs.Common.{◌≡◌, ◌∷◌, ◌+◌, drop, length}
use Rattle.rules.specs.step_rules.Raising.{throw}
use Rattle.machine_frames.specs.cil_raising.Searches.{search_on}
use Rattle.machine_frames.proofs.cil_raising.search.throw.Given as goal

abbrev pub invariant-loop-k : goal.invariant-loop-k
invariant-loop-k g l = record {
  here : search_on (g.Q.Answers.queries l.q) l.first l.thrown l.later l.st (drop l.k (l.st.top ∷ l.st.below)) ≡ throw (g.Q.Answers.queries l.q) l.fn.a l.fn.st;
  count : l.k-end ≡ length l.st.below + 1;
}
