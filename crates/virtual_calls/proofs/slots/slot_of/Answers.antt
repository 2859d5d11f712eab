use Rattle.std.proofs.Common.{◌≡◌, suc, ◌+◌, arith, sym, ◌∙◌}
use Rattle.rules.specs.link_rules.Members.{type_count}
use Rattle.virtual_calls.proofs.Slotting.{slot_next, slot_missing, slot_other, slot_new, slot_own, slot_none}
use Rattle.virtual_calls.proofs.slots.slot_of.Goals as goal

pub returns-in_default : goal.returns-in_default
returns-in_default c =
    let recs = c.args.tables.now.world.now.recs in
    let e : c.from-most.result + 1 ≡ suc (type_count recs) = omega arith in
    slot_missing recs (c.from-most.result + 1) c.loop.counter c.loop.at c.args.at c.loop.invariant e c.loop-test.true (sym c.in_default.ensures)

pub returns-then-not-is_virtual : goal.returns-then-not-is_virtual
returns-then-not-is_virtual c =
    let recs = c.args.tables.now.world.now.recs in
    let e : c.from-most.result + 1 ≡ suc (type_count recs) = omega arith in
    slot_other recs (c.from-most.result + 1) c.loop.counter c.loop.at c.args.at c.loop.invariant e c.in-Some.m.now c.loop-test.true (sym c.in-Some.ensures) (sym c.if-not-is_virtual.ensures)

pub returns-then-is_new_slot : goal.returns-then-is_new_slot
returns-then-is_new_slot c =
    let recs = c.args.tables.now.world.now.recs in
    let e : c.from-most.result + 1 ≡ suc (type_count recs) = omega arith in
    slot_new recs (c.from-most.result + 1) c.loop.counter c.loop.at c.args.at c.loop.invariant e c.in-Some.m.now c.loop-test.true (sym c.in-Some.ensures) (sym c.if-not-is_virtual.ensures) (sym c.if-is_new_slot.ensures)

pub returns-in-Ok-None : goal.returns-in-Ok-None
returns-in-Ok-None c =
    let recs = c.args.tables.now.world.now.recs in
    let e : c.from-most.result + 1 ≡ suc (type_count recs) = omega arith in
    slot_own recs (c.from-most.result + 1) c.loop.counter c.loop.at c.args.at c.loop.invariant e c.in-Some.m.now c.loop-test.true (sym c.in-Some.ensures) (sym c.if-not-is_virtual.ensures) (sym c.if-is_new_slot.ensures)
    (sym c.in-Ok-None.ensures ∙ c.in-Ok-None.field-0-is)

pub loop-preserved : goal.loop-preserved
loop-preserved c =
    let recs = c.args.tables.now.world.now.recs in
    slot_next recs (c.from-most.result + 1) c.loop.counter c.loop.at c.args.at c.loop.invariant c.in-Some.m.now c.in-Ok-Some.above c.loop-test.true (sym c.in-Some.ensures) (sym c.if-not-is_virtual.ensures) (sym c.if-is_new_slot.ensures)
    (sym c.in-Ok-Some.ensures ∙ c.in-Ok-Some.field-0-is)

pub returns : goal.returns
returns c =
    let recs = c.args.tables.now.world.now.recs in
    let e : c.from-most.result + 1 ≡ suc (type_count recs) = omega arith in
    slot_none recs (c.from-most.result + 1) c.loop.counter c.loop.at c.args.at c.loop.invariant e c.loop-test.false
