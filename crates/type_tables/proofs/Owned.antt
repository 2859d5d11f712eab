-- A list has an item that passes a test where it has a first one.
use Rattle.std.proofs.Common.{◌≡◌, ℕ, ◌+◌, List, [], ◌∷◌, Bool, true, false, Option, Some, refl}
use Rattle.std.specs.Prelude.{◌||◌, if◌then◌else◌}
use Rattle.std.specs.Option.{is_some}
use Rattle.std.specs.List.{list_any, position_from}

one_more : (b : Bool) (i : ℕ) (later : Option ℕ) (any : Bool) → is_some later ≡ any → is_some (if b then Some i else later) ≡ (b || any)
one_more true i later any e = refl
one_more false i later any e = e

pub is_there : {A : Type 0} (p : A → Bool) (i : ℕ) (xs : List A) → is_some (position_from p i xs) ≡ list_any p xs
is_there p i [] = refl
is_there p i (x ∷ xs) = one_more (p x) i (position_from p (i + 1) xs) (list_any p xs) (is_there p (i + 1) xs)
