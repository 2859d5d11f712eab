use Rattle.std.proofs.Common.{◌≡◌, ◌++◌, drop}
use Rattle.std.specs.Option.{option_map}
use Rattle.rules.specs.step_rules.CoreWords.{core_args}
use Rattle.cil_core.proofs.cil_members.arguments.core_args.Given as goal

abbrev pub invariant-loop-ty : goal.invariant-loop-ty
invariant-loop-ty g l =
    option_map (λ rest. l.kept ++ rest) (core_args (g.Q.Answers.queries l.q) l.st (drop l.ty-index l.types) l.left)
    ≡ option_map (λ rest. l.fn.first ++ rest) (core_args (g.Q.Answers.queries l.q) l.st l.types l.fn.values)
