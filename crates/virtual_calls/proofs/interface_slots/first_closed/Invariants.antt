use Rattle.std.proofs.Common.{◌≡◌, drop}
use Rattle.std.specs.Prelude.{find}
use Rattle.rules.specs.type_rules.Dispatch.{is_closed_to}
use Rattle.virtual_calls.proofs.interface_slots.first_closed.Given as goal

abbrev pub invariant-loop-e : goal.invariant-loop-e
invariant-loop-e l = find (is_closed_to l.args l.wanted) (drop l.e-index l.types) ≡ find (is_closed_to l.args l.wanted) l.types
