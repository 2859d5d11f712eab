use Rattle.std.proofs.Common.{◌≡◌, ◌++◌, drop}
use Rattle.std.specs.List.{flat_map}
use Rattle.merged_tables.specs.merged_rows.Belonging.{layout_by}
use Rattle.merged_tables.proofs.merged_rows.class_layouts.push_class_layouts.Given as goal

abbrev pub invariant-loop-row : goal.invariant-loop-row
invariant-loop-row l = l.rows.items ++ flat_map (layout_by l.tables l.asm) (drop l.row-index l.row-items) ≡ l.initial.rows.items ++ flat_map (layout_by l.tables l.asm) l.row-items
