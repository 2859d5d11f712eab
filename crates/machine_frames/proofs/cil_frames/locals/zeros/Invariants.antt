use Rattle.std.proofs.Common.{◌≡◌, ◌++◌, drop}
use Rattle.std.specs.Option.{option_map}
use Rattle.rules.specs.step_rules.Closing.{all_of}
use Rattle.rules.specs.step_rules.Frames.{zero_local}
use Rattle.machine_frames.proofs.cil_frames.locals.zeros.Given as goal

abbrev pub invariant-loop-ty : goal.invariant-loop-ty
invariant-loop-ty g l =
    all_of (zero_local (g.Q.Answers.queries l.q) l.called) l.types ≡ option_map (λ rest. l.values.items ++ rest) (all_of (zero_local (g.Q.Answers.queries l.q) l.called) (drop l.ty-index l.types))
