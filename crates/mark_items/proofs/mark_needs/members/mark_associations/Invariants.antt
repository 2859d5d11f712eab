use Rattle.std.proofs.Common.{◌≡◌, ℕ, [], ◌++◌, drop}
use Rattle.std.specs.Prelude.{slice_get}
use Rattle.std.specs.List.{flat_map}
use Rattle.std.specs.Option.{option_map_or}
use Rattle.mark_items.specs.mark_needs.Accessors.{association_facts}
use Rattle.mark_items.proofs.mark_needs.members.mark_associations.Given as goal

abbrev pub invariant-loop-k : goal.invariant-loop-k
invariant-loop-k l =
    l.facts ++ flat_map (λ (k : ℕ). option_map_or (association_facts l.all l.rec l.asm) (slice_get l.rec.method_semantics k) []) (drop l.k-index l.rows)
    ≡ l.initial.facts ++ flat_map (λ (k : ℕ). option_map_or (association_facts l.all l.rec l.asm) (slice_get l.rec.method_semantics k) []) l.rows
