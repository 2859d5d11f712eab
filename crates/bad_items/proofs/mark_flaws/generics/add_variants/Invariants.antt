use Rattle.std.proofs.Common.{◌≡◌, ℕ, [], ◌++◌, drop}
use Rattle.std.specs.Prelude.{slice_get}
use Rattle.std.specs.List.{flat_map}
use Rattle.std.specs.Option.{option_map_or}
use Rattle.bad_items.specs.mark_flaws.Rows.{variant_at}
use Rattle.bad_items.proofs.mark_flaws.generics.add_variants.Given as goal

abbrev pub invariant-loop-k : goal.invariant-loop-k
invariant-loop-k l =
    l.flaws ++ flat_map (λ (k : ℕ). option_map_or (variant_at l.at k) (slice_get l.rec.generic_param k) []) (drop l.k-index l.ks) ≡ l.initial.flaws ++ flat_map (λ (k : ℕ). option_map_or (variant_at l.at k) (slice_get l.rec.generic_param k) []) l.ks
