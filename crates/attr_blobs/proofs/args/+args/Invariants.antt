-- The room counts down; among the calls at one room each that is called by another has the lower rank.
use Rattle.std.proofs.Common.{◌≡◌, ◌+◌, ◌-◌, ◌*◌}
use Rattle.attr_blobs.specs.Values.{arg_at, args_at}
use Rattle.attr_blobs.proofs.Opened.{with_front}
use Rattle.attr_blobs.proofs.args.+args.Given as goal

abbrev pub decreases-arg_of : goal.decreases-arg_of
decreases-arg_of l = 5 * l.room

abbrev pub decreases-args_of : goal.decreases-args_of
decreases-args_of l = 5 * l.room + 1

abbrev pub decreases-list_of : goal.decreases-list_of
decreases-list_of l = 5 * l.room + 2

abbrev pub decreases-boxed_of : goal.decreases-boxed_of
decreases-boxed_of l = 5 * l.room + 2

abbrev pub decreases-holder_of : goal.decreases-holder_of
decreases-holder_of l = 5 * l.room + 3

abbrev pub invariant-args_of-loop : goal.invariant-args_of-loop
invariant-args_of-loop l = with_front l.args (args_at (arg_at l.enums l.room l.kind) (l.count - l.counter) l.rest) ≡ args_at (arg_at l.enums l.room l.kind) l.count l.bytes
