use Rattle.std.proofs.Common.{◌≡◌, ◌≤◌, drop, get_or, false}
use Rattle.il_base.specs.body_grammar.HandlerRules as nesting
use Rattle.il_code.proofs.rules.first_offender.Given as goal

abbrev pub invariant-loop-i : goal.invariant-loop-i
invariant-loop-i l = record {
  rest : nesting.offender_from (λ k. get_or l.starts k false) l.size l.all l.i (drop l.i l.all) ≡ nesting.offender (λ k. get_or l.starts k false) l.size l.all;
  before : l.i ≤ l.misfit;
}
