use Rattle.std.proofs.Common.{◌≡◌, ◌++◌, map, drop}
use Rattle.il_base.specs.declared.world_model.types.GenericParamConstraintRow.{GenericParamConstraintRow}
use Rattle.mark_parts.proofs.mark_tables.keys.constraint_owners.Given as goal

abbrev pub invariant-loop-row : goal.invariant-loop-row
invariant-loop-row l = l.keys.items ++ map (λ (r : GenericParamConstraintRow). r.owner) (drop l.row-index l.row-items) ≡ map (λ (r : GenericParamConstraintRow). r.owner) l.row-items
