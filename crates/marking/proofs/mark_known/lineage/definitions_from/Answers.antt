use Rattle.std.proofs.Common.{◌≡◌, List, ◌++◌, sym, ap, ◌∙◌}
use Rattle.il_base.specs.declared.world_model.record.AsmRec.{AsmRec}
use Rattle.mark_parts.specs.mark_tables.Assemblies.{all_of}
use Rattle.marking.specs.mark_known.Facts.{homes}
use Rattle.marking.proofs.lemmas.mark_known.Walking.{list_next, list_last, list_end}
use Rattle.marking.proofs.mark_known.lineage.definitions_from.Goals as goal

pub returns-in-Ok-None : goal.returns-in-Ok-None
returns-in-Ok-None c =
    let recs = all_of c.args.marker.now in
    c.in_ok-add_home.ensures ∙ ap (λ (rs : List AsmRec). c.loop.rows.items ++ homes rs c.loop.ty) c.as_slice-all.ensures
    ∙ list_last recs (homes recs) c.in_ok-count.count c.loop.counter c.loop.ty c.args.start c.loop.rows.items c.loop.invariant c.in_ok-count.ensures c.loop-test.true (sym c.in-Ok-None.ensures ∙ c.in-Ok-None.field-0-is)

pub loop-preserved : goal.loop-preserved
loop-preserved c =
    let recs = all_of c.args.marker.now in
    let out : c.add_home.new.rows.items ≡ c.loop.rows.items ++ homes recs c.loop.ty = c.in_ok-add_home.ensures ∙ ap (λ (rs : List AsmRec). c.loop.rows.items ++ homes rs c.loop.ty) c.as_slice-all.ensures in
    rw out (list_next recs (homes recs) c.in_ok-count.count c.loop.counter c.loop.ty c.args.start c.loop.rows.items c.loop.invariant c.in-Ok-Some.base c.loop-test.true (sym c.in-Ok-Some.ensures ∙ c.in-Ok-Some.field-0-is))

pub returns : goal.returns
returns c =
    let recs = all_of c.args.marker.now in
    list_end recs (homes recs) c.in_ok-count.count c.loop.counter c.loop.ty c.args.start c.loop.rows.items c.loop.invariant c.in_ok-count.ensures c.loop-test.false
