use Rattle.std.proofs.Common.{◌≡◌, ℕ, [], ◌++◌, drop}
use Rattle.std.specs.Prelude.{slice_get}
use Rattle.std.specs.List.{flat_map}
use Rattle.std.specs.Option.{option_map_or}
use Rattle.mark_parts.specs.mark_tables.Assemblies.{recs_of, place_of, rec_of}
use Rattle.mark_parts.specs.Constraints.{param_part}
use Rattle.mark_parts.proofs.constraints.add_param_rows.Given as goal

abbrev pub invariant-loop-k : goal.invariant-loop-k
invariant-loop-k l =
    l.parts ++ flat_map (λ (k : ℕ). option_map_or (param_part (recs_of l.asm) (place_of l.asm) (rec_of l.asm) k) (slice_get (rec_of l.asm).generic_param k) []) (drop l.k-index l.rows)
    ≡ l.initial.parts ++ flat_map (λ (k : ℕ). option_map_or (param_part (recs_of l.asm) (place_of l.asm) (rec_of l.asm) k) (slice_get (rec_of l.asm).generic_param k) []) l.rows
