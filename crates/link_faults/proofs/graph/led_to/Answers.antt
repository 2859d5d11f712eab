use Rattle.std.proofs.Common.{◌≡◌, ℕ, ◌-◌, nat_eq, sym, subst, ◌∙◌}
use Rattle.std.specs.List.{flat_map}
use Rattle.rules.specs.link_rules.Cycles.{add_all, led_to}
use Rattle.link_faults.specs.Graphs.{next_in}
use Rattle.link_faults.proofs.Leading.{Looked, round_is, looked_more, step_more, step_last, step_end}
use Rattle.link_faults.proofs.Marks.{itself}
use Rattle.link_faults.proofs.graph.led_to.Goals as goal

pub returns-then-len-before-clause-found : goal.returns-then-len-before-clause-found
returns-then-len-before-clause-found c =
    let next = next_in c.args.graph.now in
    let found = c.loop-step.found.nodes in
    let new = c.add_round.new.found.nodes in
    let step : new ≡ add_all nat_eq found (flat_map next found) = c.in_ok-add_round.ensures.added ∙ round_is nat_eq itself next c.loop-step.looked_at found c.loop-step.invariant.looked in
    step_last nat_eq itself next (c.args.steps - c.loop-step.step) found new (led_to nat_eq next c.args.steps c.args.nodes.now) step
    (sym c.len.ensures ∙ c.if-len-before.true ∙ c.len-before.ensures) c.loop-step.invariant.led

pub loop-step-preserved : goal.loop-step-preserved
loop-step-preserved c =
    let next = next_in c.args.graph.now in
    let found = c.loop-step.found.nodes in
    let new = c.add_round.new.found.nodes in
    let step : new ≡ add_all nat_eq found (flat_map next found) = c.in_ok-add_round.ensures.added ∙ round_is nat_eq itself next c.loop-step.looked_at found c.loop-step.invariant.looked in
    record {
      led = step_more nat_eq itself next c.args.steps c.loop-step.step found new (led_to nat_eq next c.args.steps c.args.nodes.now) c.loop-step-test.true step c.loop-step.invariant.led;
      looked = subst (λ (n : ℕ). Looked nat_eq itself next n new) (sym c.len-before.ensures) (looked_more nat_eq itself next found new step);
      marked = c.in_ok-add_round.ensures.marked;
    }

pub returns-clause-found : goal.returns-clause-found
returns-clause-found c =
    let next = next_in c.args.graph.now in
    step_end nat_eq itself next c.args.steps c.loop-step.step c.loop-step.found.nodes (led_to nat_eq next c.args.steps c.args.nodes.now) c.loop-step-test.false c.loop-step.invariant.led
