use Rattle.std.proofs.Common.{◌≡◌, ℕ, [], ◌++◌, drop}
use Rattle.std.specs.Prelude.{slice_get}
use Rattle.std.specs.List.{flat_map}
use Rattle.std.specs.Option.{option_map_or}
use Rattle.attribute_values.specs.attribute_rows.Parents.{constraint_here}
use Rattle.attribute_values.proofs.attribute_rows.tokens.add_constraint_rows.Given as goal

abbrev pub invariant-loop-k : goal.invariant-loop-k
invariant-loop-k l =
    l.tokens.items ++ flat_map (λ (k : ℕ). option_map_or (constraint_here k) (slice_get l.rec.generic_param_constraint k) []) (drop l.k-index l.rows)
    ≡ l.initial.tokens.items ++ flat_map (λ (k : ℕ). option_map_or (constraint_here k) (slice_get l.rec.generic_param_constraint k) []) l.rows
