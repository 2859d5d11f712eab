use Rattle.std.proofs.Common.{◌≡◌, ◌++◌, map, drop}
use Rattle.il_base.specs.declared.world_model.members.MethodImplRow.{MethodImplRow}
use Rattle.type_tables.proofs.tables.impl_classes.Given as goal

abbrev pub invariant-loop-row : goal.invariant-loop-row
invariant-loop-row l = l.keys.items ++ map (λ (r : MethodImplRow). r.class) (drop l.row-index l.row-items) ≡ map (λ (r : MethodImplRow). r.class) l.row-items
