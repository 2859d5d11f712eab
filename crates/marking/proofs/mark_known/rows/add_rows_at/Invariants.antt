use Rattle.std.proofs.Common.{◌≡◌, ℕ, [], ◌++◌, drop}
use Rattle.std.specs.Prelude.{slice_get}
use Rattle.std.specs.List.{flat_map}
use Rattle.std.specs.Option.{option_map_or}
use Rattle.marking.specs.mark_known.Facts.{row_at}
use Rattle.marking.proofs.mark_known.rows.add_rows_at.Given as goal

abbrev pub invariant-loop-k : goal.invariant-loop-k
invariant-loop-k l =
    l.rows.items ++ flat_map (λ (k : ℕ). option_map_or (row_at l.asm k) (slice_get l.rec.interface_impl k) []) (drop l.k-index l.ks) ≡ l.initial.rows.items ++ flat_map (λ (k : ℕ). option_map_or (row_at l.asm k) (slice_get l.rec.interface_impl k) []) l.ks
