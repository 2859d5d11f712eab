use Rattle.std.proofs.Common.{◌≡◌, ◌++◌, map, drop}
use Rattle.il_base.specs.declared.world_model.members.PropertyMapRow.{PropertyMapRow}
use Rattle.type_tables.proofs.tables.property_parents.Given as goal

abbrev pub invariant-loop-row : goal.invariant-loop-row
invariant-loop-row l = l.keys.items ++ map (λ (r : PropertyMapRow). r.parent) (drop l.row-index l.row-items) ≡ map (λ (r : PropertyMapRow). r.parent) l.row-items
