use Rattle.std.proofs.Common.{◌∙◌}
use Rattle.mark_parts.specs.mark_tables.Assemblies.{all_of}
use Rattle.cil_world.proofs.lemmas.world_layouts.Gathered.{next_assembly, no_assembly}
use Rattle.cil_world.proofs.world_layouts.making.all_kinds.Goals as goal

pub loop-a-preserved : goal.loop-a-preserved
loop-a-preserved c =
    next_assembly (all_of c.args.marker.now) c.as_slice-rec-items.result.now c.as_slice-rec-items.ensures c.loop-a.a c.loop-a.kinds.items c.in_ok-asm.asm c.add_kinds.new.kinds.items c.rec-item.result
    c.in_ok-asm.ensures c.loop-a-test.true c.rec-item.is c.in_ok-add_kinds.ensures ∙ c.loop-a.invariant

pub returns : goal.returns
returns c =
    no_assembly (all_of c.args.marker.now) c.as_slice-rec-items.result.now c.as_slice-rec-items.ensures c.loop-a.a c.loop-a.kinds.items c.loop-a-test.false ∙ c.loop-a.invariant
