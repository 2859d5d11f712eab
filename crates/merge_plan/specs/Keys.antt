-- Rows as keys.
use Rattle.std.specs.Prelude.{◌≡◌, ℕ, nat_eq, ◌&&◌, Bool, List, Some, None, if◌then◌else◌}
use Rattle.std.specs.HashMap.{HashMap, get}
use Rattle.std.specs.Option.{option_or}
use Rattle.rules.specs.declared.link_rules.row_at.RowAt.{RowAt}
use Rattle.rules.specs.merge_rules.Numbers.{new_row}
use Rattle.merge_plan.specs.declared.keys.Spot.{Spot}

abbrev pub same_spot : Spot → Spot → Bool
same_spot x y = nat_eq x.asm y.asm && nat_eq x.row y.row

abbrev pub spot_of : RowAt → Spot
spot_of at = record { asm = at.asm; row = at.row }

-- the second map has this place under this row, unless the first map has one there; under any other row both have the same
abbrev pub KeepsFirst : {S : Type 0} → HashMap Spot ℕ S → Spot → ℕ → HashMap Spot ℕ S → Type 0
KeepsFirst m spot place n = (q : Spot) → get same_spot n q ≡ option_or (get same_spot m q) (if same_spot spot q then Some place else None)

-- the place of each of these rows
abbrev pub ArePlaces : {S : Type 0} → List RowAt → HashMap Spot ℕ S → Type 0
ArePlaces rows m = (at : RowAt) → get same_spot m (spot_of at) ≡ new_row rows at
