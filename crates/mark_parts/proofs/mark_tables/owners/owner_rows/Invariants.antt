use Rattle.std.proofs.Common.{take}
use Rattle.std.specs.List.{AllZip}
use Rattle.mark_parts.specs.mark_tables.Owners.{AreOwnerRows}
use Rattle.mark_parts.proofs.mark_tables.owners.owner_rows.Given as goal

abbrev pub invariant-loop-rec : goal.invariant-loop-rec
invariant-loop-rec l = AllZip AreOwnerRows (take l.rec-index l.all) l.rows.items
