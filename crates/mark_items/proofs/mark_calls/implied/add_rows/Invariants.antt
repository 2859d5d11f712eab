use Rattle.std.proofs.Common.{◌≡◌, ℕ, [], ◌++◌, drop}
use Rattle.std.specs.Prelude.{slice_get}
use Rattle.std.specs.List.{flat_map}
use Rattle.std.specs.Option.{option_map_or}
use Rattle.mark_parts.specs.mark_tables.Assemblies.{recs_of, place_of, rec_of}
use Rattle.mark_items.specs.mark_calls.Implied.{definition_in}
use Rattle.mark_items.proofs.mark_calls.implied.add_rows.Given as goal

abbrev pub invariant-loop-k : goal.invariant-loop-k
invariant-loop-k l =
    l.rows.items ++ flat_map (λ (k : ℕ). option_map_or (definition_in (recs_of l.asm) (place_of l.asm) (rec_of l.asm)) (slice_get (rec_of l.asm).interface_impl k) []) (drop l.k-index l.ks)
    ≡ l.initial.rows.items ++ flat_map (λ (k : ℕ). option_map_or (definition_in (recs_of l.asm) (place_of l.asm) (rec_of l.asm)) (slice_get (rec_of l.asm).interface_impl k) []) l.ks
