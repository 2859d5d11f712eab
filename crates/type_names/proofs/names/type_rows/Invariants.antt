use Rattle.std.proofs.Common.{◌≡◌, take}
use Rattle.type_names.proofs.names.type_rows.Given as goal

abbrev pub invariant-loop-nested : goal.invariant-loop-nested
invariant-loop-nested l = l.types ≡ take l.nested-index l.nested-items
