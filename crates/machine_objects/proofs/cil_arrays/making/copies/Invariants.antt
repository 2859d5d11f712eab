use Rattle.std.proofs.Common.{◌≡◌, replicate}
use Rattle.machine_objects.proofs.cil_arrays.making.copies.Given as goal

abbrev pub invariant-loop : goal.invariant-loop
invariant-loop l = l.cells ≡ replicate l.counter l.v
