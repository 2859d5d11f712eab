-- Where each key stands first in a list.
use Rattle.std.specs.Prelude.{◌≡◌, ℕ, List, Option, nat_eq, slice_get}
use Rattle.std.specs.HashMap.{get}
use Rattle.std.specs.List.{position_from}
use Rattle.il_base.specs.declared.first_places.places.Places.{Places}
use Rattle.il_base.specs.first_places.Near.{near_or}

abbrev pub place_in : Places → ℕ → Option ℕ
place_in p key = near_or (slice_get p.near.items key) (get nat_eq p.map key)

-- the first place of each key
abbrev pub AreFirst : List ℕ → Places → Type 0
AreFirst keys p = (key : ℕ) → place_in p key ≡ position_from (nat_eq key) 0 keys
