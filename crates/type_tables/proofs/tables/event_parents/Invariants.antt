use Rattle.std.proofs.Common.{◌≡◌, ◌++◌, map, drop}
use Rattle.il_base.specs.declared.world_model.members.EventMapRow.{EventMapRow}
use Rattle.type_tables.proofs.tables.event_parents.Given as goal

abbrev pub invariant-loop-row : goal.invariant-loop-row
invariant-loop-row l = l.keys.items ++ map (λ (r : EventMapRow). r.parent) (drop l.row-index l.row-items) ≡ map (λ (r : EventMapRow). r.parent) l.row-items
