use Rattle.std.proofs.Common.{◌+◌, ◌++◌, drop, List, sym, ap, ◌∙◌}
use Rattle.attr_blobs.specs.declared.value.EnumSize.{EnumSize}
use Rattle.rules.specs.type_rules.Rows.{each_from}
use Rattle.rules.specs.mark_rules.Attributes.{enum_names}
use Rattle.mark_parts.specs.mark_tables.Assemblies.{place_of}
use Rattle.attribute_values.specs.enum_names.Enums.{all_recs, own_rec, enum_names_at}
use Rattle.attribute_values.proofs.lemmas.enum_names.Finding.{each_next, each_end}
use Rattle.attribute_values.proofs.lemmas.enum_names.Naming.{named_here}
use Rattle.attribute_values.proofs.enum_names.enums.add_types.Goals as goal

pub loop-k-preserved : goal.loop-k-preserved
loop-k-preserved c =
    let s = c.args.source.now in
    let f = enum_names (all_recs s) s.from (place_of s.asm.now) (own_rec s) in
    let k = c.loop-k.k in
    ap (λ (es : List EnumSize). es ++ each_from f (k + 1) (drop (k + 1) c.args.types.now))
    (c.in_ok-add_type.ensures ∙ ap (λ n. c.loop-k.enums ++ enum_names_at s n) c.in_ok-row.ensures ∙ ap (λ (es : List EnumSize). c.loop-k.enums ++ es) (named_here s c.requires k c.index-types-k.result))
    ∙ each_next f c.args.types.now k c.index-types-k.result c.loop-k.enums c.loop-k-test.true c.index-types-k.is ∙ c.loop-k.invariant

pub returns : goal.returns
returns c =
    let s = c.args.source.now in
    let f = enum_names (all_recs s) s.from (place_of s.asm.now) (own_rec s) in
    sym (each_end f c.args.types.now c.loop-k.k c.loop-k.enums c.loop-k-test.false) ∙ c.loop-k.invariant
