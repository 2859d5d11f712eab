-- The room counts down, and at one room `kind_behind` calls `kind_of`.
use Rattle.std.proofs.Common.{◌+◌, ◌*◌}
use Rattle.attr_blobs.proofs.kinds.+kinds.Given as goal

abbrev pub decreases-kind_of : goal.decreases-kind_of
decreases-kind_of l = 2 * l.room

abbrev pub decreases-kind_behind : goal.decreases-kind_behind
decreases-kind_behind l = 2 * l.room + 1
