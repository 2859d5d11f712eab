use Rattle.std.proofs.Common.{◌≡◌, ◌++◌, drop}
use Rattle.il_base.specs.body_grammar.BodySpelling as grammar
use Rattle.il_code.proofs.writing.put_clauses.Given as goal

abbrev pub invariant-loop-h : goal.invariant-loop-h
invariant-loop-h l = l.out.items ++ grammar.clauses_bytes l.fat (drop l.h-index l.handlers) ≡ l.fn.out.items ++ grammar.clauses_bytes l.fat l.handlers
