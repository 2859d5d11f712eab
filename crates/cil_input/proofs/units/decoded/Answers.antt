use Rattle.std.proofs.Common.{◌+◌, reverse, ap, ◌∙◌, arith}
use Rattle.std.proofs.lemmas.List.{reverse-reverse, take_rest}
use Rattle.rules.specs.step_rules.Input.{decoded_after}
use Rattle.cil_input.proofs.Decoding.{units_next, units_end}
use Rattle.cil_input.proofs.units.decoded.Goals as goal

pub loop-at-preserved : goal.loop-at-preserved
loop-at-preserved c =
    let made = rw (take_rest c.args.bytes.now (c.loop-at.at + 1)) at c.in_ok-inside.ensures.units in
    let left = rw (take_rest c.args.bytes.now (c.loop-at.at + 1)) at c.in_ok-inside.ensures.more in
    units_next c.loop-at.units.items c.loop-at.inside c.loop-at.at c.args.bytes.now (decoded_after 0 c.args.bytes.now) c.loop-at.invariant c.push_at.new.units.items c.in_ok-inside.inside c.loop-at-test.true (omega arith) made left

pub returns : goal.returns
returns c =
    c.from_vec.ensures ∙ ap reverse c.reverse.ensures.items ∙ reverse-reverse c.loop-at.units.items
    ∙ units_end c.loop-at.units.items c.loop-at.inside c.loop-at.at c.args.bytes.now (decoded_after 0 c.args.bytes.now) c.loop-at.invariant (omega arith)
