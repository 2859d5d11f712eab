use Rattle.std.proofs.Common.{◌≡◌, ℕ, [], ◌++◌, drop}
use Rattle.std.specs.Prelude.{slice_get}
use Rattle.std.specs.List.{flat_map}
use Rattle.std.specs.Option.{option_map_or}
use Rattle.attribute_values.specs.attribute_kinds.Sites.{recs_in, place_in, rec_in}
use Rattle.bad_items.specs.attribute_flaws.Rows.{unread_flaw}
use Rattle.bad_items.proofs.attribute_flaws.attributes.add_rows_at.Given as goal

abbrev pub invariant-loop-k : goal.invariant-loop-k
invariant-loop-k l =
    l.flaws ++ flat_map (λ (k : ℕ). option_map_or (unread_flaw (recs_in l.reader.site) (place_in l.reader.site) (rec_in l.reader.site) l.at k) (slice_get (rec_in l.reader.site).custom_attribute k) []) (drop l.k-index l.rows)
    ≡ l.initial.flaws ++ flat_map (λ (k : ℕ). option_map_or (unread_flaw (recs_in l.reader.site) (place_in l.reader.site) (rec_in l.reader.site) l.at k) (slice_get (rec_in l.reader.site).custom_attribute k) []) l.rows
