use Rattle.std.proofs.Common.{◌≡◌, ℕ, [], ◌++◌, drop}
use Rattle.std.specs.Prelude.{slice_get}
use Rattle.std.specs.List.{flat_map}
use Rattle.std.specs.Option.{option_map_or}
use Rattle.attribute_values.specs.attribute_kinds.Sites.{recs_in, place_in, rec_in}
use Rattle.mark_dependencies.specs.item_dependencies.Rows.{if_called}
use Rattle.mark_dependencies.proofs.item_dependencies.rows.add_each.Given as goal

abbrev pub invariant-loop-k : goal.invariant-loop-k
invariant-loop-k l =
    l.found ++ flat_map (λ (k : ℕ). option_map_or (if_called (recs_in l.reader.site) (place_in l.reader.site) (rec_in l.reader.site)) (slice_get (rec_in l.reader.site).custom_attribute k) []) (drop l.k-index l.rows)
    ≡ l.initial.found ++ flat_map (λ (k : ℕ). option_map_or (if_called (recs_in l.reader.site) (place_in l.reader.site) (rec_in l.reader.site)) (slice_get (rec_in l.reader.site).custom_attribute k) []) l.rows
