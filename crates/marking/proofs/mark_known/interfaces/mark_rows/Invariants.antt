use Rattle.std.proofs.Common.{◌≡◌, ℕ, [], ◌++◌, drop}
use Rattle.std.specs.Prelude.{slice_get}
use Rattle.std.specs.List.{flat_map}
use Rattle.std.specs.Option.{option_map_or}
use Rattle.mark_parts.specs.mark_tables.Assemblies.{place_of, rec_of}
use Rattle.marking.specs.mark_known.Facts.{recs_in, knows, named_row}
use Rattle.marking.proofs.mark_known.interfaces.mark_rows.Given as goal

abbrev pub invariant-loop-n : goal.invariant-loop-n
invariant-loop-n l =
    l.facts ++ flat_map (λ (n : ℕ). option_map_or (named_row (recs_in l.k) (knows l.k) (place_of l.asm) (rec_of l.asm) n) (slice_get (rec_of l.asm).interface_impl n) []) (drop l.n-index l.ns) ≡ l.initial.facts ++ flat_map (λ (n : ℕ). option_map_or (named_row (recs_in l.k) (knows l.k) (place_of l.asm) (rec_of l.asm) n) (slice_get (rec_of l.asm).interface_impl n) []) l.ns
