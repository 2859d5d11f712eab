use Rattle.std.proofs.Common.{◌≡◌, ◌++◌, map, drop}
use Rattle.restrict.specs.merged_attributes.Attributes.{told, row_by}
use Rattle.restrict.proofs.merged_attributes.rows.attribute_rows.Given as goal

abbrev pub invariant-loop-attribute : goal.invariant-loop-attribute
invariant-loop-attribute l = l.rows ++ map (row_by l.keys) (map told (drop l.attribute-index l.attributes)) ≡ map (row_by l.keys) (map told l.attributes)
