use Rattle.std.proofs.Common.{◌≡◌, None, drop}
use Rattle.rules.specs.step_rules.Throws.{innermost_from}
use Rattle.machine_frames.specs.cil_throws.Blocks.{best_by}
use Rattle.machine_frames.proofs.cil_throws.innermost.best_of.Given as goal

abbrev pub invariant-loop-n : goal.invariant-loop-n
invariant-loop-n l = innermost_from l.at (best_by l.best) l.n (drop l.n l.clauses) ≡ innermost_from l.at None 0 l.clauses
