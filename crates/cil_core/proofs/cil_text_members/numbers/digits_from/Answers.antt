use Rattle.std.proofs.Common.{◌∙◌, sym, ap, ℕ, ◌+◌, List, drop, get_or, arith}
use Rattle.std.specs.Prelude.{min}
use Rattle.std.specs.Option.{option_map}
use Rattle.std.proofs.lemmas.List.{drop_more}
use Rattle.rules.specs.step_rules.CoreTexts.{digits_from}
use Rattle.cil_core.specs.cil_text_members.Parsed.{enough}
use Rattle.cil_core.proofs.lemmas.cil_text_members.Ints.{one_digit}
use Rattle.cil_core.proofs.cil_text_members.numbers.digits_from.Goals as goal

pub loop-unit-preserved : goal.loop-unit-preserved
loop-unit-preserved c = record {
  within = omega (arith, c.min-n.ensures);
  value =
      one_digit c.loop-unit.n (get_or c.args.units.now c.loop-unit.unit-index 0) c.in-Some.digit c.min-n.result (drop (c.loop-unit.unit-index + 1) c.args.units.now)
      (sym c.in-Some.ensures) c.min-n.ensures
      ∙ ap (λ (us : List ℕ). option_map (min enough) (digits_from c.loop-unit.n us)) (sym (drop_more c.args.units.now c.loop-unit.unit-index 0 c.loop-unit-test.true))
      ∙ c.loop-unit.invariant.value;
}
