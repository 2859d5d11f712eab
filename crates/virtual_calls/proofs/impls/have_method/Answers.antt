use Rattle.std.proofs.Common.{Option, sym, ap, ◌∙◌}
use Rattle.std.specs.List.{list_any}
use Rattle.rules.specs.declared.link_rules.row_at.RowAt.{RowAt}
use Rattle.rules.specs.link_rules.Members.{with_bases}
use Rattle.virtual_calls.specs.Impls.{stands_at}
use Rattle.virtual_calls.proofs.Walking.{any_here, any_next, any_last, any_none}
use Rattle.virtual_calls.proofs.impls.have_method.Goals as goal

pub returns-in-Ok-true : goal.returns-in-Ok-true
returns-in-Ok-true c =
    let recs = c.args.tables.now.world.now.recs in
    any_here recs (stands_at recs c.in_ok-owner.owner) c.in_ok-count.count c.loop.counter c.loop.ty c.args.start c.in_ok-count.ensures c.loop.invariant c.loop-test.true
    (sym c.in-Ok-true.ensures ∙ c.in-Ok-true.field-0-test)
    ∙ ap (λ (o : Option RowAt). list_any (stands_at recs o) (with_bases recs c.args.start)) c.in_ok-owner.ensures

pub returns-in-Ok-None : goal.returns-in-Ok-None
returns-in-Ok-None c =
    let recs = c.args.tables.now.world.now.recs in
    any_last recs (stands_at recs c.in_ok-owner.owner) c.in_ok-count.count c.loop.counter c.loop.ty c.args.start c.in_ok-count.ensures c.loop.invariant c.loop-test.true
    (sym c.in-Ok-false.ensures ∙ c.in-Ok-false.field-0-test) (sym c.in-Ok-None.ensures ∙ c.in-Ok-None.field-0-is)
    ∙ ap (λ (o : Option RowAt). list_any (stands_at recs o) (with_bases recs c.args.start)) c.in_ok-owner.ensures

pub loop-preserved : goal.loop-preserved
loop-preserved c =
    let recs = c.args.tables.now.world.now.recs in
    any_next recs (stands_at recs c.in_ok-owner.owner) c.in_ok-count.count c.loop.counter c.loop.ty c.in-Ok-Some.base c.args.start c.loop.invariant c.loop-test.true
    (sym c.in-Ok-false.ensures ∙ c.in-Ok-false.field-0-test) (sym c.in-Ok-Some.ensures ∙ c.in-Ok-Some.field-0-is)

pub returns : goal.returns
returns c =
    let recs = c.args.tables.now.world.now.recs in
    any_none recs (stands_at recs c.in_ok-owner.owner) c.in_ok-count.count c.loop.counter c.loop.ty c.args.start c.in_ok-count.ensures c.loop.invariant c.loop-test.false
    ∙ ap (λ (o : Option RowAt). list_any (stands_at recs o) (with_bases recs c.args.start)) c.in_ok-owner.ensures
