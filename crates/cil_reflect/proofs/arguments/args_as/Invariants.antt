use Rattle.std.proofs.Common.{◌≡◌, drop}
use Rattle.rules.specs.step_rules.CoreInvoking.{args_as}
use Rattle.cil_reflect.specs.Aims.{behind}
use Rattle.cil_reflect.proofs.arguments.args_as.Given as goal

abbrev pub invariant-loop-ty : goal.invariant-loop-ty
invariant-loop-ty g l =
    behind l.kept (args_as (g.Q.Answers.queries l.q) l.st (drop l.ty-index l.types) l.left)
    ≡ behind l.fn.first (args_as (g.Q.Answers.queries l.q) l.st l.types l.fn.values)
