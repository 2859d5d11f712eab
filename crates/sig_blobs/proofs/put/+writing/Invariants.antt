-- The depth counts down; among the calls at one depth each that is called by another has the lower rank.
use Rattle.std.proofs.Common.{◌≡◌, ◌++◌, ◌+◌, ◌*◌, take}
use Rattle.il_base.specs.blob_grammar.Signatures.{types_bytes}
use Rattle.sig_blobs.proofs.put.+writing.Given as goal

abbrev pub decreases-put_type : goal.decreases-put_type
decreases-put_type l = 4 * l.room

abbrev pub decreases-put_types : goal.decreases-put_types
decreases-put_types l = 4 * l.room + 1

abbrev pub decreases-put_counted : goal.decreases-put_counted
decreases-put_counted l = 4 * l.room + 2

abbrev pub decreases-put_instance : goal.decreases-put_instance
decreases-put_instance l = 4 * l.room + 3

abbrev pub decreases-put_modified : goal.decreases-put_modified
decreases-put_modified l = 4 * l.room + 1

abbrev pub decreases-put_holder : goal.decreases-put_holder
decreases-put_holder l = 4 * l.room + 1

abbrev pub invariant-put_types-loop-one : goal.invariant-put_types-loop-one
invariant-put_types-loop-one l = l.out.items ≡ l.initial.out.items ++ types_bytes (take l.one-index l.types)
