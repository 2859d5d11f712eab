use Rattle.std.proofs.Common.{◌≡◌, ◌++◌, drop}
use Rattle.std.specs.List.{flat_map}
use Rattle.merged_tables.specs.merged_field_rvas.FieldRvas.{field_rva_by}
use Rattle.merged_tables.proofs.merged_field_rvas.field_rvas.push_field_rvas.Given as goal

abbrev pub invariant-loop-row : goal.invariant-loop-row
invariant-loop-row l = l.rows.items ++ flat_map (field_rva_by l.tables l.asm) (drop l.row-index l.row-items) ≡ l.initial.rows.items ++ flat_map (field_rva_by l.tables l.asm) l.row-items
