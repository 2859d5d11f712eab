-- The depth counts down; among the calls at one depth each that is called by another has the lower rank.
use Rattle.std.proofs.Common.{◌≡◌, ◌+◌, ◌-◌, ◌*◌}
use Rattle.il_base.specs.blob_grammar.Reading.{type_at, types_at}
use Rattle.sig_blobs.proofs.Loop.{with_front}
use Rattle.sig_blobs.proofs.types.+types.Given as goal

abbrev pub decreases-type_of : goal.decreases-type_of
decreases-type_of l = 5 * l.room

abbrev pub decreases-types_of : goal.decreases-types_of
decreases-types_of l = 5 * l.room + 1

abbrev pub decreases-instance_of : goal.decreases-instance_of
decreases-instance_of l = 5 * l.room + 2

abbrev pub decreases-modified_of : goal.decreases-modified_of
decreases-modified_of l = 5 * l.room + 2

abbrev pub decreases-type_behind : goal.decreases-type_behind
decreases-type_behind l = 5 * l.room + 3

abbrev pub invariant-types_of-loop : goal.invariant-types_of-loop
invariant-types_of-loop l = with_front l.types (types_at (type_at l.room) (l.count - l.counter) l.rest) ≡ types_at (type_at l.room) l.count l.bytes
