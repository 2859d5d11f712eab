use Rattle.std.proofs.Common.{◌≡◌, ◌++◌, map, drop}
use Rattle.std.specs.List.{flat_map}
use Rattle.token_keys.specs.Keys.{recs_of, place_of, rec_of}
use Rattle.restrict.specs.merged_attributes.Attributes.{told, attribute_by}
use Rattle.restrict.proofs.merged_attributes.attributes.push_rows.Given as goal

abbrev pub invariant-loop-row : goal.invariant-loop-row
invariant-loop-row l =
    map told l.all.items ++ flat_map (attribute_by l.tables (recs_of l.keys) (place_of l.keys) (rec_of l.keys)) (drop l.row-index l.row-items)
    ≡ map told l.initial.all.items ++ flat_map (attribute_by l.tables (recs_of l.keys) (place_of l.keys) (rec_of l.keys)) l.row-items
