use Rattle.std.proofs.Common.{◌≡◌, drop}
use Rattle.machine_numbers.proofs.cil_operands.operands.take_off.Given as goal

abbrev pub invariant-loop : goal.invariant-loop
invariant-loop l = l.stack ≡ drop l.counter l.initial.stack
