use Rattle.std.proofs.Common.{◌≡◌, ◌++◌, map, drop}
use Rattle.il_base.specs.declared.world_model.members.MethodSemanticsRow.{MethodSemanticsRow}
use Rattle.type_tables.proofs.tables.associations.Given as goal

abbrev pub invariant-loop-row : goal.invariant-loop-row
invariant-loop-row l = l.keys.items ++ map (λ (r : MethodSemanticsRow). r.association) (drop l.row-index l.row-items) ≡ map (λ (r : MethodSemanticsRow). r.association) l.row-items
