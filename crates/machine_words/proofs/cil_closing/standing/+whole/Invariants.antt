use Rattle.std.proofs.Common.{◌≡◌, drop}
use Rattle.std.specs.List.{list_all}
use Rattle.rules.specs.step_rules.Closing.{standing, is_whole}
use Rattle.machine_words.proofs.cil_closing.standing.+whole.Given as goal

abbrev pub invariant-are_whole-loop-one : goal.invariant-are_whole-loop-one
invariant-are_whole-loop-one g l = list_all (λ e. is_whole (standing (g.Q.Answers.queries l.q).head e)) (drop l.one-index l.types) ≡ list_all (λ e. is_whole (standing (g.Q.Answers.queries l.q).head e)) l.types
