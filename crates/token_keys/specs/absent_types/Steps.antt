-- Whether two rows read the same, by one step over their scopes.
use Rattle.std.specs.Prelude.{Bool}
use Rattle.rules.specs.declared.link_rules.row_at.RowAt.{RowAt}
use Rattle.token_keys.specs.declared.absent_types.scopes.Step.{Step}
use Rattle.token_keys.specs.declared.absent_types.scopes.Step.TheVariants.{Decided, AsOuter}

abbrev pub says : (RowAt → RowAt → Bool) → Step → Bool
says reads (Decided same) = same
says reads (AsOuter x y) = reads x y
