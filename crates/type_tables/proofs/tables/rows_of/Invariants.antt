use Rattle.std.proofs.Common.{take}
use Rattle.std.specs.List.{AllZip}
use Rattle.type_tables.specs.Tables.{AreRowTables}
use Rattle.type_tables.proofs.tables.rows_of.Given as goal

abbrev pub invariant-loop-rec : goal.invariant-loop-rec
invariant-loop-rec l = AllZip AreRowTables (take l.rec-index l.all) l.rows.items
