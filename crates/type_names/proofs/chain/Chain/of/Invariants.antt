use Rattle.std.proofs.Common.{◌≡◌, ◌++◌, ◌-◌, length}
use Rattle.rules.specs.type_rules.Texts.{row_name}
use Rattle.type_names.specs.Chains.{inner_names}
use Rattle.type_names.proofs.chain.Chain.of.Given as goal

abbrev pub invariant-loop-step : goal.invariant-loop-step
invariant-loop-step l = row_name l.nested (l._step-end - l._step) l.at ++ inner_names l.nested l.inner ≡ row_name l.nested (length l.nested.type_def) l.row
