use Rattle.std.proofs.Common.{◌≡◌, ℕ, [], ◌++◌, drop}
use Rattle.std.specs.Prelude.{slice_get}
use Rattle.std.specs.List.{flat_map}
use Rattle.std.specs.Option.{option_map_or}
use Rattle.rules.specs.mark_rules.Attributes.{attribute_facts}
use Rattle.attribute_values.specs.attribute_kinds.Sites.{recs_in, place_in, rec_in}
use Rattle.mark_dependencies.proofs.mark_attributes.rows.add_attributes_at.Given as goal

abbrev pub invariant-loop-k : goal.invariant-loop-k
invariant-loop-k l =
    l.facts ++ flat_map (λ (k : ℕ). option_map_or (attribute_facts (recs_in l.reader.site) (place_in l.reader.site) (rec_in l.reader.site)) (slice_get (rec_in l.reader.site).custom_attribute k) []) (drop l.k-index l.rows)
    ≡ l.initial.facts ++ flat_map (λ (k : ℕ). option_map_or (attribute_facts (recs_in l.reader.site) (place_in l.reader.site) (rec_in l.reader.site)) (slice_get (rec_in l.reader.site).custom_attribute k) []) l.rows
