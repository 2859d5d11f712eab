use Rattle.std.proofs.Common.{◌≡◌, ◌++◌, drop}
use Rattle.std.specs.List.{flat_map}
use Rattle.mark_parts.specs.mark_rows.Runs.{events_at}
use Rattle.mark_parts.proofs.mark_rows.members.events_under.Given as goal

abbrev pub invariant-loop-k : goal.invariant-loop-k
invariant-loop-k l = l.rows.items ++ flat_map (events_at l.rec l.asm) (drop l.k-index l.maps) ≡ flat_map (events_at l.rec l.asm) l.maps
