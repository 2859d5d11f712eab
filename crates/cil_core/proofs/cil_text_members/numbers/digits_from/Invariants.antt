use Rattle.std.proofs.Common.{◌≡◌, ◌≤◌, drop}
use Rattle.std.specs.Prelude.{min}
use Rattle.std.specs.Option.{option_map}
use Rattle.rules.specs.step_rules.CoreTexts.{digits_from}
use Rattle.cil_core.specs.cil_text_members.Parsed.{enough}
use Rattle.cil_core.proofs.cil_text_members.numbers.digits_from.Given as goal

abbrev pub invariant-loop-unit : goal.invariant-loop-unit
invariant-loop-unit l = record {
  within : l.n ≤ enough;
  value : option_map (min enough) (digits_from l.n (drop l.unit-index l.units)) ≡ option_map (min enough) (digits_from 0 l.units);
}
