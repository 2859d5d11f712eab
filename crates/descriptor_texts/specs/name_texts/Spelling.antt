-- Units that spell characters, whatever comes after them.
use Rattle.std.specs.Prelude.{◌≡◌, ℕ, List, ◌++◌, Some, map}
use Rattle.std.specs.Char.Utf16.{utf16_chars}

abbrev pub Spell : List ℕ → List ℕ → Type 0
Spell units cs = (rest : List ℕ) → utf16_chars (units ++ rest) ≡ map (λ c. Some c) cs ++ utf16_chars rest
