use Rattle.std.proofs.Common.{◌≡◌, ◌-◌, length}
use Rattle.rules.specs.type_rules.Labels.{row_space}
use Rattle.type_names.proofs.labels.row_space.Given as goal

abbrev pub invariant-loop-step : goal.invariant-loop-step
invariant-loop-step l = row_space l.nested (l._step-end - l._step) l.at ≡ row_space l.nested (length l.nested.type_def) l.row
