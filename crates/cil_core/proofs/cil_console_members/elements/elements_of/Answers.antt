use Rattle.std.proofs.Common.{◌∙◌, sym, ap, subst, ℕ, ◌-◌, ◌*◌, ◌≤◌, List, ◌++◌, length, drop}
use Rattle.il_base.specs.declared.cil_values.value.Value.{Value}
use Rattle.rules.specs.step_rules.Integers.{width_of}
use Rattle.rules.specs.step_rules.CoreArrays.{elements_of}
use Rattle.cil_core.proofs.lemmas.cil_console_members.ElementLemmas.{one_more, rest_fits}
use Rattle.cil_core.proofs.cil_console_members.elements.elements_of.Goals as goal

pub loop-rest-preserved : goal.loop-rest-preserved
loop-rest-preserved c = record {
  room =
      subst (λ (bs : List ℕ). (c.loop-rest.rest - 1) * width_of c.args.code ≤ length bs) (sym c.behind-left.ensures)
      (rest_fits c.loop-rest.rest (width_of c.args.code) c.width-width.result c.loop-rest.left.now c.loop-rest-test.true c.width-width.ensures.value
      c.loop-rest.invariant.room);
  value =
      ap (λ (bs : List ℕ). c.push.new.self ++ elements_of c.args.code (c.loop-rest.rest - 1) bs) c.behind-left.ensures
      ∙ ap (λ (xs : List Value). xs ++ elements_of c.args.code (c.loop-rest.rest - 1) (drop c.width-width.result c.loop-rest.left.now)) c.in_ok-push.ensures.ok
      ∙ one_more c.args.code c.loop-rest.rest c.width-width.result c.loop-rest.left.now c.loop-rest.cells c.element.result c.loop-rest-test.true
      c.width-width.ensures.value c.element.ensures
      ∙ c.loop-rest.invariant.value;
}
