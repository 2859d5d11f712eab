use Rattle.std.proofs.Common.{◌≡◌, ◌++◌, drop}
use Rattle.cil_core.proofs.cil_object_members.number_texts.units_of_ascii.Given as goal

abbrev pub invariant-loop-b : goal.invariant-loop-b
invariant-loop-b l = l.units ++ drop l.b-index l.bytes ≡ l.bytes
