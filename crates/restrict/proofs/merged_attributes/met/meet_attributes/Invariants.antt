use Rattle.std.proofs.Common.{◌≡◌, ◌++◌, map, drop}
use Rattle.restrict.specs.merged_attributes.Attributes.{told, met_by}
use Rattle.restrict.proofs.merged_attributes.met.meet_attributes.Given as goal

abbrev pub invariant-loop-attribute : goal.invariant-loop-attribute
invariant-loop-attribute l = l.mets ++ map met_by (map told (drop l.attribute-index l.attributes)) ≡ l.initial.mets ++ map met_by (map told l.attributes)
