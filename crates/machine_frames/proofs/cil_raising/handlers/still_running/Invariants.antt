use Rattle.std.proofs.Common.{◌≡◌, reverse}
use Rattle.std.specs.Prelude.{slice_get}
use Rattle.std.specs.List.{filter}
use Rattle.il_base.specs.declared.cil_values.frame.Running.{Running}
use Rattle.rules.specs.step_rules.Raising.{is_in}
use Rattle.machine_frames.proofs.cil_raising.handlers.still_running.Given as goal

abbrev pub invariant-loop-r : goal.invariant-loop-r
invariant-loop-r l = l.left ≡ filter (λ (r : Running). is_in (slice_get l.code.clauses r.clause) l.at) (reverse l.yielded)
