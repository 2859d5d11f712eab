use Rattle.std.proofs.Common.{◌≡◌, ◌++◌, map, drop}
use Rattle.il_base.specs.declared.world_model.extras.FieldRvaRow.{FieldRvaRow}
use Rattle.bad_items.proofs.mark_flaws.tables.rva_fields.Given as goal

abbrev pub invariant-loop-row : goal.invariant-loop-row
invariant-loop-row l = l.keys.items ++ map (λ (r : FieldRvaRow). r.field) (drop l.row-index l.row-items) ≡ map (λ (r : FieldRvaRow). r.field) l.row-items
