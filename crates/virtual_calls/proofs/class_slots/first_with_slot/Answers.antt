use Rattle.std.proofs.Common.{ℕ, sym}
use Rattle.std.specs.List.{range_with_len}
use Rattle.rules.specs.link_rules.Types.{at_row}
use Rattle.rules.specs.type_rules.Slots.{has_slot}
use Rattle.rules.specs.type_rules.Dispatch.{place_that}
use Rattle.virtual_calls.proofs.Running.{place_next}
use Rattle.virtual_calls.proofs.class_slots.first_with_slot.Goals as goal

pub loop-i-preserved : goal.loop-i-preserved
loop-i-preserved c =
    let test = λ (j : ℕ). has_slot c.args.tables.now.world.now.recs c.args.slot (at_row c.args.asm j) in
    place_next test c.args.start c.args.count c.loop-i.i c.in_ok-row.row (place_that test (range_with_len c.args.start c.args.count)) c.loop-i-test.true c.in_ok-row.ensures
    (sym c.if-has_slot.ensures) c.loop-i.invariant
