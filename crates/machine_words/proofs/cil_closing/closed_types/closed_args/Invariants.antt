use Rattle.std.proofs.Common.{◌≡◌, ◌++◌, drop}
use Rattle.std.specs.Option.{option_map}
use Rattle.rules.specs.step_rules.Closing.{all_of, closed_arg}
use Rattle.machine_words.proofs.cil_closing.closed_types.closed_args.Given as goal

abbrev pub invariant-loop-one : goal.invariant-loop-one
invariant-loop-one g l =
    all_of (closed_arg (g.Q.Answers.queries l.q) l.targs l.margs) l.types ≡ option_map (λ rest. l.made ++ rest) (all_of (closed_arg (g.Q.Answers.queries l.q) l.targs l.margs) (drop l.one-index l.types))
