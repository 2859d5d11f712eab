use Rattle.std.proofs.Common.{◌≡◌, length}
use Rattle.rules.specs.step_rules.Raising.{unwind_to, unwind}
use Rattle.machine_frames.proofs.cil_raising.unwinding.unwind.Given as goal

abbrev pub invariant-loop-body : goal.invariant-loop-body
invariant-loop-body g l = unwind_to (g.Q.Answers.queries l.q) l.u l.st l.st.below ≡ unwind (g.Q.Answers.queries l.q) l.fn.u l.fn.st

abbrev pub decreases-loop-body : goal.decreases-loop-body
decreases-loop-body g l = length l.st.below
