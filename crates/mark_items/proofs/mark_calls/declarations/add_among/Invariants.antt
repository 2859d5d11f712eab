use Rattle.std.proofs.Common.{◌≡◌, ℕ, [], ◌++◌, drop}
use Rattle.std.specs.Prelude.{slice_get}
use Rattle.std.specs.List.{flat_map}
use Rattle.std.specs.Option.{option_map_or}
use Rattle.rules.specs.mark_rules.Calls.{declared_by}
use Rattle.mark_parts.specs.mark_tables.Assemblies.{all_of}
use Rattle.mark_items.proofs.mark_calls.declarations.add_among.Given as goal

abbrev pub invariant-loop-k : goal.invariant-loop-k
invariant-loop-k l =
    l.facts ++ flat_map (λ (k : ℕ). option_map_or (declared_by (all_of l.marker) l.at l.asm l.rec) (slice_get l.rec.method_impl k) []) (drop l.k-index l.ks)
    ≡ l.initial.facts ++ flat_map (λ (k : ℕ). option_map_or (declared_by (all_of l.marker) l.at l.asm l.rec) (slice_get l.rec.method_impl k) []) l.ks
