-- The names of a type and its enclosers, from outside inwards.
use Rattle.std.specs.Prelude.{ℕ, List, ◌++◌, reverse}
use Rattle.attribute_values.specs.declared.enum_names.paths.Chain.{Chain}

abbrev pub chain_path : Chain → List (List ℕ)
chain_path c = c.outermost ++ reverse c.inner
