use Rattle.std.proofs.Common.{◌≡◌, drop}
use Rattle.std.specs.Prelude.{find}
use Rattle.std.specs.List.{flat_map}
use Rattle.rules.specs.type_rules.Dispatch.{implied, is_closed_to}
use Rattle.virtual_calls.proofs.interface_slots.first_implied.Given as goal

abbrev pub invariant-loop-e : goal.invariant-loop-e
invariant-loop-e l =
    find (is_closed_to l.args l.wanted) (flat_map (implied l.tables.world.now.recs) (drop l.e-index l.interfaces))
    ≡ find (is_closed_to l.args l.wanted) (flat_map (implied l.tables.world.now.recs) l.interfaces)
