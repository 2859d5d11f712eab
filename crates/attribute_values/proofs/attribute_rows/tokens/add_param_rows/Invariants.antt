use Rattle.std.proofs.Common.{◌≡◌, ℕ, [], ◌++◌, drop}
use Rattle.std.specs.Prelude.{slice_get}
use Rattle.std.specs.List.{flat_map}
use Rattle.std.specs.Option.{option_map_or}
use Rattle.mark_parts.specs.mark_tables.Assemblies.{rec_of}
use Rattle.attribute_values.specs.attribute_rows.Parents.{param_here}
use Rattle.attribute_values.proofs.attribute_rows.tokens.add_param_rows.Given as goal

abbrev pub invariant-loop-k : goal.invariant-loop-k
invariant-loop-k l =
    l.tokens.items ++ flat_map (λ (k : ℕ). option_map_or (param_here (rec_of l.asm) k) (slice_get (rec_of l.asm).generic_param k) []) (drop l.k-index l.rows)
    ≡ l.initial.tokens.items ++ flat_map (λ (k : ℕ). option_map_or (param_here (rec_of l.asm) k) (slice_get (rec_of l.asm).generic_param k) []) l.rows
