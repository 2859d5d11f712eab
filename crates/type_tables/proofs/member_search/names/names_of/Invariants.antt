use Rattle.std.proofs.Common.{take}
use Rattle.std.specs.List.{AllZip}
use Rattle.type_tables.specs.member_search.Names.{AreNames}
use Rattle.type_tables.proofs.member_search.names.names_of.Given as goal

abbrev pub invariant-loop-rec : goal.invariant-loop-rec
invariant-loop-rec l = AllZip AreNames (take l.rec-index l.all) l.names.items
