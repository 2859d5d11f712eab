use Rattle.mark_parts.specs.mark_tables.Assemblies.{all_of}
use Rattle.mark_members.proofs.Waiting.{level_next, level_end, level_smaller}
use Rattle.mark_members.proofs.levels.add_levels.Goals as goal

pub returns-in-None : goal.returns-in-None
returns-in-None c = level_end (all_of c.args.marker.now) _ _ _ c.in-None.ensures.0 c.loop-left.invariant

pub loop-left-preserved : goal.loop-left-preserved
loop-left-preserved c = level_next (all_of c.args.marker.now) _ _ _ _ _ _ _ c.in-Some.ensures c.in_ok-add_level-in-Some.ensures.items c.loop-left.invariant

pub loop-left-smaller : goal.loop-left-smaller
loop-left-smaller c = level_smaller (all_of c.args.marker.now) _ _ _ _ c.in-Some.ensures c.in_ok-add_level-in-Some.ensures.total
