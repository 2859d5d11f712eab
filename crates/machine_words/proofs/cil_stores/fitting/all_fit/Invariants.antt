use Rattle.std.proofs.Common.{◌≡◌}
use Rattle.rules.specs.step_rules.Stores.{all_fit}
use Rattle.machine_words.proofs.lemmas.cil_stores.AllFit.{kept_to}
use Rattle.machine_words.proofs.cil_stores.fitting.all_fit.Given as goal

abbrev pub invariant-loop-i : goal.invariant-loop-i
invariant-loop-i g l = kept_to (g.Q.Answers.queries l.q) l.types l.items.items l.i ≡ all_fit (g.Q.Answers.queries l.q) l.types l.fn.values
