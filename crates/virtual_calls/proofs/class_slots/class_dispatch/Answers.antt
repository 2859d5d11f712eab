use Rattle.std.proofs.Common.{sym, ◌∙◌}
use Rattle.rules.specs.type_rules.Dispatch.{class_method_in, class_dispatch}
use Rattle.virtual_calls.proofs.Walking.{walk_here, walk_next, walk_last, walk_none}
use Rattle.virtual_calls.proofs.class_slots.class_dispatch.Goals as goal

pub returns-in-Ok-Some : goal.returns-in-Ok-Some
unfolding class_dispatch
returns-in-Ok-Some c =
    let recs = c.args.tables.now.world.now.recs in
    walk_here recs (class_method_in recs c.args.slot) c.in_ok-count.count c.loop.counter c.loop.ty c.args.t.now c.in_ok-count.ensures c.loop.invariant
    c.in-Ok-Some.at c.loop-test.true (sym c.in-Ok-Some.ensures ∙ c.in-Ok-Some.field-0-is)

pub returns-in-Ok-None-base_of : goal.returns-in-Ok-None-base_of
unfolding class_dispatch
returns-in-Ok-None-base_of c =
    let recs = c.args.tables.now.world.now.recs in
    walk_last recs (class_method_in recs c.args.slot) c.in_ok-count.count c.loop.counter c.loop.ty c.args.t.now c.in_ok-count.ensures c.loop.invariant
    c.loop-test.true (sym c.in-Ok-None.ensures ∙ c.in-Ok-None.field-0-is) (sym c.in-Ok-None-base_of.ensures ∙ c.in-Ok-None-base_of.field-0-is)

pub loop-preserved : goal.loop-preserved
loop-preserved c =
    let recs = c.args.tables.now.world.now.recs in
    walk_next recs (class_method_in recs c.args.slot) c.in_ok-count.count c.loop.counter c.loop.ty c.in-Ok-Some-base_of.base c.args.t.now c.loop.invariant
    c.loop-test.true (sym c.in-Ok-None.ensures ∙ c.in-Ok-None.field-0-is) (sym c.in-Ok-Some-base_of.ensures ∙ c.in-Ok-Some-base_of.field-0-is)

pub returns : goal.returns
unfolding class_dispatch
returns c =
    let recs = c.args.tables.now.world.now.recs in
    walk_none recs (class_method_in recs c.args.slot) c.in_ok-count.count c.loop.counter c.loop.ty c.args.t.now c.in_ok-count.ensures c.loop.invariant
    c.loop-test.false
