use Rattle.std.proofs.Common.{◌≡◌, ◌+◌, ◌++◌, drop, List, sym, ap, ◌∙◌}
use Rattle.std.specs.Prelude.{Some, slice_get}
use Rattle.il_base.specs.declared.world_model.record.AsmRec.{AsmRec}
use Rattle.attr_blobs.specs.declared.value.EnumSize.{EnumSize}
use Rattle.rules.specs.type_rules.Rows.{each_from}
use Rattle.mark_parts.specs.mark_tables.Assemblies.{all_of}
use Rattle.attribute_values.specs.enum_names.Enums.{enums_in}
use Rattle.attribute_values.proofs.lemmas.enum_names.Finding.{here_at, each_next, each_end}
use Rattle.attribute_values.proofs.enum_names.enums.add_assemblies.Goals as goal

pub loop-a-preserved : goal.loop-a-preserved
loop-a-preserved c =
    let f = enums_in (all_of c.args.marker.now) c.args.from in
    let a = c.loop-a.a in
    let rec = c.index-all-a.result in
    let here : slice_get (all_of c.args.marker.now) a ≡ Some rec =
    ap (λ (xs : List AsmRec). slice_get xs a) (sym c.requires.all) ∙ here_at c.args.all.now a rec c.loop-a-test.true c.index-all-a.is in
    ap (λ (es : List EnumSize). es ++ each_from f (a + 1) (drop (a + 1) c.args.all.now)) (c.in_ok-add_assembly_at.ensures rec here)
    ∙ each_next f c.args.all.now a rec c.loop-a.enums c.loop-a-test.true c.index-all-a.is ∙ c.loop-a.invariant

pub returns : goal.returns
returns c =
    let f = enums_in (all_of c.args.marker.now) c.args.from in
    sym (each_end f c.args.all.now c.loop-a.a c.loop-a.enums c.loop-a-test.false) ∙ c.loop-a.invariant
