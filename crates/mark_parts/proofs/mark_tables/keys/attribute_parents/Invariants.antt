use Rattle.std.proofs.Common.{◌≡◌, ◌++◌, map, drop}
use Rattle.il_base.specs.declared.world_model.extras.CustomAttributeRow.{CustomAttributeRow}
use Rattle.mark_parts.proofs.mark_tables.keys.attribute_parents.Given as goal

abbrev pub invariant-loop-row : goal.invariant-loop-row
invariant-loop-row l = l.keys.items ++ map (λ (r : CustomAttributeRow). r.parent) (drop l.row-index l.row-items) ≡ map (λ (r : CustomAttributeRow). r.parent) l.row-items
