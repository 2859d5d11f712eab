use Rattle.std.proofs.Common.{drop}
use Rattle.machine_words.specs.cil_closing.Settled.{SettledSlots}
use Rattle.machine_words.proofs.cil_closing.settled.are_settled.Given as goal

abbrev pub invariant-loop-ty : goal.invariant-loop-ty
invariant-loop-ty g l = SettledSlots (g.Q.Answers.queries l.q) (drop l.ty-index l.types) → SettledSlots (g.Q.Answers.queries l.q) l.types
