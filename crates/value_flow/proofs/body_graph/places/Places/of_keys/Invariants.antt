use Rattle.std.proofs.Common.{◌≡◌, ℕ, drop}
use Rattle.std.specs.Prelude.{nat_eq}
use Rattle.std.specs.HashMap.{get}
use Rattle.std.specs.List.{position_from}
use Rattle.rules.specs.link_rules.Types.{or_else}
use Rattle.value_flow.proofs.body_graph.places.Places.of_keys.Given as goal

abbrev pub invariant-loop-i : goal.invariant-loop-i
invariant-loop-i l = (q : ℕ) → or_else (get nat_eq l.map q) (position_from (nat_eq q) l.i (drop l.i l.keys)) ≡ position_from (nat_eq q) 0 l.keys
