-- Demands in order, and the refusal of the first that doesn't hold.
use Rattle.std.specs.Prelude.{◌≡◌, ℕ, zero, suc, ◌+◌, Bool, nat_le, List, [], ◌∷◌, ◌++◌, length, Option, Some, None, Result, Ok, Err, unwrap_or, if◌then◌else◌}
use Rattle.il_base.specs.Bytes.{number_at}
use Rattle.il_base.specs.declared.ids.BadAt.{BadAt}
use Rattle.il_base.specs.declared.reason.TheConstants.{TRUNCATED}

-- A demand: whether it holds, and the refusal where it doesn't.
pub record Demand (E : Type 0) : Type 0 where
  pub holds : Bool
  pub refusal : E

-- one demand alone
unfoldable pub demand : {E : Type 0} → Bool → E → List (Demand E)
demand holds refusal = record { holds = holds; refusal = refusal } ∷ []

-- the refusal of the first demand, from the front, that doesn't hold
unfoldable pub first_fault : {E : Type 0} → List (Demand E) → Option E
first_fault [] = None
first_fault (d ∷ ds) = if d.holds then first_fault ds else Some d.refusal

-- The demands of 0, of 1 and so on, below a number.
unfoldable pub each_below : {D : Type 0} → (ℕ → List D) → ℕ → List D
each_below f zero = []
each_below f (suc n) = each_below f n ++ f n

-- A call answers by demands: the value where all of them hold, and else the refusal of the first that doesn't.
abbrev pub Checked : {X E : Type 0} → Result X E → List (Demand E) → X → Type 0
Checked (Ok x) demands value = (first_fault demands ≡ None) × (x ≡ value)
Checked (Err e) demands value = first_fault demands ≡ Some e

-- the refusal at a place
abbrev pub bad : ℕ → ℕ → BadAt
bad offset why = record { offset = offset; why = why }

-- the number of n bytes at a place, the lowest byte first, and 0 where the bytes end before
unfoldable pub number : ℕ → List ℕ → ℕ → ℕ
number n bs at = unwrap_or (number_at n bs at) 0

-- The file has n bytes from a place.
abbrev pub within : List ℕ → ℕ → ℕ → List (Demand BadAt)
within bs at n = demand (nat_le (at + n) (length bs)) (bad (length bs) TRUNCATED)
