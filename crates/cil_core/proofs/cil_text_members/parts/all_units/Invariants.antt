use Rattle.std.proofs.Common.{◌≡◌, ◌++◌, drop}
use Rattle.std.specs.Option.{option_map}
use Rattle.rules.specs.step_rules.CoreTexts.{all_units}
use Rattle.cil_core.proofs.cil_text_members.parts.all_units.Given as goal

abbrev pub invariant-loop-v : goal.invariant-loop-v
invariant-loop-v l = option_map (λ more. l.all ++ more) (all_units l.st (drop l.v-index l.values)) ≡ all_units l.st l.values
