use Rattle.std.proofs.Common.{◌≡◌, ◌++◌, drop}
use Rattle.il_base.specs.body_grammar.BodySpelling as grammar
use Rattle.il_code.proofs.writing.put_distances.Given as goal

abbrev pub invariant-loop-target : goal.invariant-loop-target
invariant-loop-target l = l.out.items ++ grammar.distances l.end (drop l.target-index l.targets) ≡ l.fn.out.items ++ grammar.distances l.end l.targets
