use Rattle.std.proofs.Common.{◌≡◌, drop}
use Rattle.type_names.specs.Homes.{row_of}
use Rattle.type_names.proofs.assemblies.Assemblies.row_of.Given as goal

abbrev pub invariant-loop-nested : goal.invariant-loop-nested
invariant-loop-nested l = row_of (drop l.nested-index l.nested-items) l.row ≡ row_of l.nested-items l.fn.id.0
