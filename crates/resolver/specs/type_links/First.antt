-- The first value under each key of a map.
use Rattle.std.specs.Prelude.{◌≡◌, Bool, Some, None, if◌then◌else◌}
use Rattle.std.specs.HashMap.{HashMap, get}
use Rattle.std.specs.Option.{option_or}

-- the second map has this value under this key, unless the first map has one there; under any other key both have the same
abbrev pub KeepsFirst : {K V S : Type 0} → (K → K → Bool) → HashMap K V S → K → V → HashMap K V S → Type 0
KeepsFirst {K} eq m key value n = (q : K) → get eq n q ≡ option_or (get eq m q) (if eq key q then Some value else None)
