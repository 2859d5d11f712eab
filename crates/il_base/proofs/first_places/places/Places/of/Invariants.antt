use Rattle.std.proofs.Common.{◌≡◌, ℕ, drop}
use Rattle.std.specs.HashMap.{get}
use Rattle.std.specs.List.{position_from}
use Rattle.std.specs.Prelude.{nat_eq}
use Rattle.il_base.proofs.lemmas.first_places.First.{or_else}
use Rattle.il_base.proofs.first_places.places.Places.of.Given as goal

abbrev pub invariant-loop-i : goal.invariant-loop-i
invariant-loop-i l = (q : ℕ) → or_else (get nat_eq l.map q) (position_from (nat_eq q) l.i (drop l.i l.keys)) ≡ position_from (nat_eq q) 0 l.keys
