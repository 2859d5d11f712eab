-- The law on new numbers.
use Rattle.std.specs.Prelude.{◌≡◌, ℕ, List, Bool}
use Rattle.rules.specs.change_rules.Keeping.{new_number, old_number}

abbrev pub OldOfNew : Type 0
OldOfNew = (flags : List Bool) (n c m : ℕ) → old_number flags n c (new_number flags n c m) ≡ m
