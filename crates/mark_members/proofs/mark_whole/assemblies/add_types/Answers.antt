use Rattle.std.proofs.Common.{◌+◌, ◌++◌, drop, List, sym, ap, ◌∙◌}
use Rattle.rules.specs.type_rules.Rows.{each_from}
use Rattle.rules.specs.mark_rules.Facts.{Fact}
use Rattle.mark_parts.specs.mark_tables.Assemblies.{all_of}
use Rattle.mark_members.specs.mark_whole.Assemblies.{whole_type}
use Rattle.mark_items.proofs.lemmas.mark_calls.Finding.{each_next, each_end}
use Rattle.mark_members.proofs.mark_whole.assemblies.add_types.Goals as goal

pub loop-k-preserved : goal.loop-k-preserved
loop-k-preserved c =
    let f = whole_type (all_of c.args.marker.now) c.args.asm in
    ap (λ (fs : List Fact). fs ++ each_from f (c.loop-k.k + 1) (drop (c.loop-k.k + 1) c.args.types.now)) c.in_ok-add_type.ensures
    ∙ each_next f c.args.types.now c.loop-k.k c.index-types-k.result c.loop-k.facts c.loop-k-test.true c.index-types-k.is ∙ c.loop-k.invariant

pub returns : goal.returns
returns c =
    let f = whole_type (all_of c.args.marker.now) c.args.asm in
    sym (each_end f c.args.types.now c.loop-k.k c.loop-k.facts c.loop-k-test.false) ∙ c.loop-k.invariant
