use Rattle.std.proofs.Common.{sym, ◌∙◌}
use Rattle.virtual_calls.specs.Interfaces.{interface_look}
use Rattle.virtual_calls.proofs.Walking.{walk_here, walk_next, walk_last, walk_none}
use Rattle.virtual_calls.proofs.interface_slots.nearest_look.Goals as goal

pub returns-in-Ok-Some : goal.returns-in-Ok-Some
returns-in-Ok-Some c =
    let recs = c.args.tables.now.world.now.recs in
    walk_here recs (interface_look recs c.args.slot c.args.instance.now c.args.name.now c.args.wanted.now) c.in_ok-count.count c.loop.counter c.loop.ty c.args.start c.in_ok-count.ensures c.loop.invariant
    c.in-Ok-Some.at c.loop-test.true (sym c.in-Ok-Some.ensures ∙ c.in-Ok-Some.field-0-is)

pub returns-in-Ok-None-base_of : goal.returns-in-Ok-None-base_of
returns-in-Ok-None-base_of c =
    let recs = c.args.tables.now.world.now.recs in
    walk_last recs (interface_look recs c.args.slot c.args.instance.now c.args.name.now c.args.wanted.now) c.in_ok-count.count c.loop.counter c.loop.ty c.args.start c.in_ok-count.ensures c.loop.invariant
    c.loop-test.true (sym c.in-Ok-None.ensures ∙ c.in-Ok-None.field-0-is) (sym c.in-Ok-None-base_of.ensures ∙ c.in-Ok-None-base_of.field-0-is)

pub loop-preserved : goal.loop-preserved
loop-preserved c =
    let recs = c.args.tables.now.world.now.recs in
    walk_next recs (interface_look recs c.args.slot c.args.instance.now c.args.name.now c.args.wanted.now) c.in_ok-count.count c.loop.counter c.loop.ty c.in-Ok-Some-base_of.base c.args.start c.loop.invariant
    c.loop-test.true (sym c.in-Ok-None.ensures ∙ c.in-Ok-None.field-0-is) (sym c.in-Ok-Some-base_of.ensures ∙ c.in-Ok-Some-base_of.field-0-is)

pub returns : goal.returns
returns c =
    let recs = c.args.tables.now.world.now.recs in
    walk_none recs (interface_look recs c.args.slot c.args.instance.now c.args.name.now c.args.wanted.now) c.in_ok-count.count c.loop.counter c.loop.ty c.args.start c.in_ok-count.ensures c.loop.invariant
    c.loop-test.false
