use Rattle.std.proofs.Common.{length}
use Rattle.cil_world.proofs.world_layouts.cells.+add_all.Given as goal

abbrev pub decreases-add_all : goal.decreases-add_all
decreases-add_all l = length l.bases.now
