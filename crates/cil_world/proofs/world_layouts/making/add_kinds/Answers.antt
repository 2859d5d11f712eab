use Rattle.std.proofs.Common.{◌∙◌}
use Rattle.rules.specs.link_rules.Types.{at_row}
use Rattle.mark_parts.specs.mark_tables.Assemblies.{all_of}
use Rattle.cil_world.specs.world_layouts.Kinds.{kind_at}
use Rattle.cil_world.proofs.lemmas.world_layouts.Gathered.{one_more}
use Rattle.cil_world.proofs.world_layouts.making.add_kinds.Goals as goal

pub loop-row-preserved : goal.loop-row-preserved
loop-row-preserved c =
    one_more (λ k. kind_at (all_of c.args.marker.now) (at_row c.args.asm k)) c.loop-row.kinds.items c.push.new.self.items c.in_ok-kind.kind c.loop-row.row c.in_ok-count.count c.loop-row-test.true
    c.in_ok-push.ensures.items c.in_ok-kind.ensures ∙ c.loop-row.invariant
