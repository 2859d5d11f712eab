use Rattle.std.proofs.Common.{sym, ◌∙◌}
use Rattle.virtual_calls.proofs.Walking.{walk_here, walk_next, walk_last, walk_none}
use Rattle.mark_parts.specs.mark_tables.Assemblies.{all_of}
use Rattle.mark_items.specs.mark_named.Nearest.{sought, member_marks}
use Rattle.mark_items.proofs.lemmas.mark_named.Seeking.{sought_here, sought_none}
use Rattle.mark_items.proofs.mark_named.nearest.nearest_member.Goals as goal

pub returns-in-Ok-Some : goal.returns-in-Ok-Some
returns-in-Ok-Some c =
    let recs = all_of c.args.marker.now in
    walk_here recs (sought recs c.args.field c.args.name.now) c.in_ok-count.count c.loop.counter c.loop.ty c.args.start c.in_ok-count.ensures c.loop.invariant
    (member_marks recs c.args.field c.loop.ty c.in-Ok-Some.at) c.loop-test.true
    (sought_here recs c.args.name.now c.loop.ty c.args.field c.in-Ok-Some.at (sym c.in-Ok-Some.ensures ∙ c.in-Ok-Some.field-0-is))

pub returns-in-Ok-None-base_of : goal.returns-in-Ok-None-base_of
returns-in-Ok-None-base_of c =
    let recs = all_of c.args.marker.now in
    walk_last recs (sought recs c.args.field c.args.name.now) c.in_ok-count.count c.loop.counter c.loop.ty c.args.start c.in_ok-count.ensures c.loop.invariant c.loop-test.true
    (sought_none recs c.args.name.now c.loop.ty c.args.field (sym c.in-Ok-None.ensures ∙ c.in-Ok-None.field-0-is)) (sym c.in-Ok-None-base_of.ensures ∙ c.in-Ok-None-base_of.field-0-is)

pub loop-preserved : goal.loop-preserved
loop-preserved c =
    let recs = all_of c.args.marker.now in
    walk_next recs (sought recs c.args.field c.args.name.now) c.in_ok-count.count c.loop.counter c.loop.ty c.in-Ok-Some-base_of.base c.args.start c.loop.invariant c.loop-test.true
    (sought_none recs c.args.name.now c.loop.ty c.args.field (sym c.in-Ok-None.ensures ∙ c.in-Ok-None.field-0-is)) (sym c.in-Ok-Some-base_of.ensures ∙ c.in-Ok-Some-base_of.field-0-is)

pub returns : goal.returns
returns c =
    let recs = all_of c.args.marker.now in
    walk_none recs (sought recs c.args.field c.args.name.now) c.in_ok-count.count c.loop.counter c.loop.ty c.args.start c.in_ok-count.ensures c.loop.invariant c.loop-test.false
