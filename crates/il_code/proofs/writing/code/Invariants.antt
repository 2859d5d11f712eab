use Rattle.std.proofs.Common.{◌≡◌, ◌++◌, drop}
use Rattle.il_base.specs.body_grammar.BodySpelling as grammar
use Rattle.il_code.proofs.writing.code.Given as goal

abbrev pub invariant-loop-i : goal.invariant-loop-i
invariant-loop-i l = l.out.items ++ grammar.code_bytes (drop l.i-index l.instrs) ≡ grammar.code_bytes l.instrs
