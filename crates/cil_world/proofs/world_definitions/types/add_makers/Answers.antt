use Rattle.mark_parts.specs.mark_tables.Assemblies.{all_of}
use Rattle.cil_world.specs.world_definitions.Types.{maker_at}
use Rattle.cil_world.proofs.lemmas.world_methods.Filling.{row_more}
use Rattle.cil_world.proofs.world_definitions.types.add_makers.Goals as goal

pub loop-k-preserved : goal.loop-k-preserved
loop-k-preserved c =
    row_more (maker_at (all_of c.args.marker.now)) c.args.a c.loop-k.k c.in_ok-asm.asm c.in_ok-row.row c.args.rows.now.items c.loop-k.rows.items c.push.new.self.items c.in_ok-one.one c.loop-k.invariant
    c.in_ok-asm.ensures c.in_ok-row.ensures c.in_ok-one.ensures c.in_ok-push.ensures.items
