-- The law of addresses after bodies: they depend on the size of the bodies modulo 2^32.
use Rattle.std.specs.Prelude.{◌≡◌, ℕ, ◌%◌}
use Rattle.rules.specs.merge_rules.Refs.{Output}
use Rattle.rules.specs.merge_rules.Restricted.{field_rvas}

abbrev pub ModuloTells : Type 0
ModuloTells = (o : Output) (n : ℕ) → field_rvas o (n % 4294967296) ≡ field_rvas o n
