use Rattle.std.proofs.Common.{◌+◌, ◌++◌, drop, List, sym, ap, ◌∙◌}
use Rattle.il_base.specs.declared.world_model.record.AsmRec.{AsmRec}
use Rattle.rules.specs.type_rules.Rows.{each_from}
use Rattle.rules.specs.mark_rules.BadItems.{Flaw}
use Rattle.attribute_values.proofs.lemmas.enum_names.Finding.{each_next, each_end, here_at}
use Rattle.base_laws.specs.flaw_laws.Listed.{impl_flaws_in}
use Rattle.bad_items.specs.Programs.{recs_in, has}
use Rattle.bad_items.proofs.Placing.{at_place}
use Rattle.bad_items.proofs.impls.add_impls.Goals as goal

pub loop-a-preserved : goal.loop-a-preserved
loop-a-preserved c =
    let recs = recs_in c.args.program.now in
    let have = has c.args.program.now in
    let f = impl_flaws_in recs have in
    let all = c.as_slice-all.result.now in
    let a = c.loop-a.a in
    let rec = c.index-all-a.result in
    let here = here_at all a rec c.loop-a-test.true c.index-all-a.is in
    ap (λ (fs : List Flaw). fs ++ each_from f (a + 1) (drop (a + 1) all))
    (c.in_ok-add_impls_at.ensures ∙ ap (λ (fs : List Flaw). c.loop-a.flaws ++ fs) (at_place recs all have c.as_slice-all.ensures a c.in_ok-place.place c.in_ok-place.ensures rec here))
    ∙ each_next f all a rec c.loop-a.flaws c.loop-a-test.true c.index-all-a.is ∙ c.loop-a.invariant

pub returns : goal.returns
returns c =
    let f = impl_flaws_in (recs_in c.args.program.now) (has c.args.program.now) in
    sym (each_end f c.as_slice-all.result.now c.loop-a.a c.loop-a.flaws c.loop-a-test.false) ∙ c.loop-a.invariant ∙ ap (λ (rs : List AsmRec). c.args.flaws.now ++ each_from f 0 rs) c.as_slice-all.ensures
