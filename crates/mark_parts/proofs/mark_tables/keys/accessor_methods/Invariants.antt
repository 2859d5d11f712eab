use Rattle.std.proofs.Common.{◌≡◌, ◌++◌, map, drop}
use Rattle.il_base.specs.declared.world_model.members.MethodSemanticsRow.{MethodSemanticsRow}
use Rattle.mark_parts.proofs.mark_tables.keys.accessor_methods.Given as goal

abbrev pub invariant-loop-row : goal.invariant-loop-row
invariant-loop-row l = l.keys.items ++ map (λ (r : MethodSemanticsRow). r.method) (drop l.row-index l.row-items) ≡ map (λ (r : MethodSemanticsRow). r.method) l.row-items
