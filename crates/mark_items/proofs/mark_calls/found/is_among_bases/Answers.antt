use Rattle.std.proofs.Common.{List, sym, ap, ◌∙◌}
use Rattle.il_base.specs.declared.world_model.record.AsmRec.{AsmRec}
use Rattle.virtual_calls.proofs.Walking.{any_here, any_next, any_last, any_none}
use Rattle.mark_parts.specs.mark_tables.Assemblies.{all_of}
use Rattle.mark_items.specs.mark_calls.Found.{is_home}
use Rattle.mark_items.proofs.mark_calls.found.is_among_bases.Goals as goal

pub returns-in-Ok-true : goal.returns-in-Ok-true
returns-in-Ok-true c =
    let recs = all_of c.args.marker.now in
    any_here recs (is_home recs c.args.c) c.in_ok-count.count c.loop.counter c.loop.ty c.args.start c.in_ok-count.ensures c.loop.invariant c.loop-test.true
    (ap (λ (rs : List AsmRec). is_home rs c.args.c c.loop.ty) (sym c.as_slice-all.ensures) ∙ sym c.in-Ok-true.ensures ∙ c.in-Ok-true.field-0-test)

pub returns-in-Ok-None : goal.returns-in-Ok-None
returns-in-Ok-None c =
    let recs = all_of c.args.marker.now in
    any_last recs (is_home recs c.args.c) c.in_ok-count.count c.loop.counter c.loop.ty c.args.start c.in_ok-count.ensures c.loop.invariant c.loop-test.true
    (ap (λ (rs : List AsmRec). is_home rs c.args.c c.loop.ty) (sym c.as_slice-all.ensures) ∙ sym c.in-Ok-false.ensures ∙ c.in-Ok-false.field-0-test) (sym c.in-Ok-None.ensures ∙ c.in-Ok-None.field-0-is)

pub loop-preserved : goal.loop-preserved
loop-preserved c =
    let recs = all_of c.args.marker.now in
    any_next recs (is_home recs c.args.c) c.in_ok-count.count c.loop.counter c.loop.ty c.in-Ok-Some.base c.args.start c.loop.invariant c.loop-test.true
    (ap (λ (rs : List AsmRec). is_home rs c.args.c c.loop.ty) (sym c.as_slice-all.ensures) ∙ sym c.in-Ok-false.ensures ∙ c.in-Ok-false.field-0-test) (sym c.in-Ok-Some.ensures ∙ c.in-Ok-Some.field-0-is)

pub returns : goal.returns
returns c =
    let recs = all_of c.args.marker.now in
    any_none recs (is_home recs c.args.c) c.in_ok-count.count c.loop.counter c.loop.ty c.args.start c.in_ok-count.ensures c.loop.invariant c.loop-test.false
