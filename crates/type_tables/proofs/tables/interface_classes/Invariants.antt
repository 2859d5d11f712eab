use Rattle.std.proofs.Common.{◌≡◌, ◌++◌, map, drop}
use Rattle.il_base.specs.declared.world_model.types.InterfaceImplRow.{InterfaceImplRow}
use Rattle.type_tables.proofs.tables.interface_classes.Given as goal

abbrev pub invariant-loop-row : goal.invariant-loop-row
invariant-loop-row l = l.keys.items ++ map (λ (r : InterfaceImplRow). r.class) (drop l.row-index l.row-items) ≡ map (λ (r : InterfaceImplRow). r.class) l.row-items
