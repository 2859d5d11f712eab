use Rattle.std.proofs.Common.{◌≡◌, ◌++◌, map, drop}
use Rattle.il_base.specs.declared.world_model.types.GenericParamRow.{GenericParamRow}
use Rattle.mark_parts.proofs.mark_tables.keys.param_owners.Given as goal

abbrev pub invariant-loop-row : goal.invariant-loop-row
invariant-loop-row l = l.keys.items ++ map (λ (r : GenericParamRow). r.owner) (drop l.row-index l.row-items) ≡ map (λ (r : GenericParamRow). r.owner) l.row-items
