use Rattle.std.proofs.Common.{◌≡◌, drop}
use Rattle.rules.specs.step_rules.Words.{here_in}
use Rattle.rules.specs.step_rules.Raising.{clause_for}
use Rattle.machine_frames.proofs.cil_raising.search.clause_for.Given as goal

abbrev pub invariant-loop-n : goal.invariant-loop-n
invariant-loop-n g l = clause_for (g.Q.Answers.queries l.q) (here_in l.f l.body.method.now l.body.code.now) l.st l.a l.f.at l.n (drop l.n l.body.code.now.clauses) ≡ clause_for (g.Q.Answers.queries l.q) (here_in l.f l.body.method.now l.body.code.now) l.st l.a l.f.at 0 l.body.code.now.clauses
