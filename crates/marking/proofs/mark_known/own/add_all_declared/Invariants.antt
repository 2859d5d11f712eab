use Rattle.std.proofs.Common.{◌≡◌, ℕ, [], ◌++◌, drop}
use Rattle.std.specs.Prelude.{slice_get}
use Rattle.std.specs.List.{flat_map}
use Rattle.std.specs.Option.{option_map_or}
use Rattle.base_laws.specs.known_laws.Known.{declared_slot}
use Rattle.mark_parts.specs.mark_tables.Assemblies.{all_of}
use Rattle.marking.proofs.mark_known.own.add_all_declared.Given as goal

abbrev pub invariant-loop-k : goal.invariant-loop-k
invariant-loop-k l =
    l.found.items ++ flat_map (λ (k : ℕ). option_map_or (declared_slot (all_of l.marker) l.asm l.rec) (slice_get l.rec.method_impl k) []) (drop l.k-index l.ks) ≡ l.initial.found.items ++ flat_map (λ (k : ℕ). option_map_or (declared_slot (all_of l.marker) l.asm l.rec) (slice_get l.rec.method_impl k) []) l.ks
