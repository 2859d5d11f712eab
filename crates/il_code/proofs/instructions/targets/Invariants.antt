use Rattle.std.proofs.Common.{◌≡◌, ◌-◌, ◌*◌, ◌++◌, drop}
use Rattle.il_base.specs.body_grammar.Instructions as grammar
use Rattle.il_code.proofs.instructions.targets.Given as goal

abbrev pub invariant-loop-i : goal.invariant-loop-i
invariant-loop-i l = l.targets ++ grammar.targets (l.count - l.i) l.end (drop (4 * l.i) l.bytes) ≡ grammar.targets l.count l.end l.bytes
