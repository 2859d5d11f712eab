use Rattle.std.proofs.Common.{sym, ◌∙◌}
use Rattle.type_tables.specs.member_search.Wanted.{look_for}
use Rattle.virtual_calls.proofs.Walking.{walk_here, walk_next, walk_last, walk_none}
use Rattle.virtual_calls.proofs.nearest.nearest_match.Goals as goal

pub returns-in-Ok-Some : goal.returns-in-Ok-Some
returns-in-Ok-Some c =
    let recs = c.args.tables.now.world.now.recs in
    walk_here recs (look_for recs c.args.name.now c.args.wanted.now) c.in_ok-count.count c.loop.counter c.loop.ty c.args.start c.in_ok-count.ensures c.loop.invariant
    c.in-Ok-Some.at c.loop-test.true (sym c.in-Ok-Some.ensures ∙ c.in-Ok-Some.field-0-is)

pub returns-in-Ok-None-base_of : goal.returns-in-Ok-None-base_of
returns-in-Ok-None-base_of c =
    let recs = c.args.tables.now.world.now.recs in
    walk_last recs (look_for recs c.args.name.now c.args.wanted.now) c.in_ok-count.count c.loop.counter c.loop.ty c.args.start c.in_ok-count.ensures c.loop.invariant
    c.loop-test.true (sym c.in-Ok-None.ensures ∙ c.in-Ok-None.field-0-is) (sym c.in-Ok-None-base_of.ensures ∙ c.in-Ok-None-base_of.field-0-is)

pub loop-preserved : goal.loop-preserved
loop-preserved c =
    let recs = c.args.tables.now.world.now.recs in
    walk_next recs (look_for recs c.args.name.now c.args.wanted.now) c.in_ok-count.count c.loop.counter c.loop.ty c.in-Ok-Some-base_of.base c.args.start c.loop.invariant
    c.loop-test.true (sym c.in-Ok-None.ensures ∙ c.in-Ok-None.field-0-is) (sym c.in-Ok-Some-base_of.ensures ∙ c.in-Ok-Some-base_of.field-0-is)

pub returns : goal.returns
returns c =
    let recs = c.args.tables.now.world.now.recs in
    walk_none recs (look_for recs c.args.name.now c.args.wanted.now) c.in_ok-count.count c.loop.counter c.loop.ty c.args.start c.in_ok-count.ensures c.loop.invariant
    c.loop-test.false
