use Rattle.std.proofs.Common.{◌≡◌, ◌++◌, drop}
use Rattle.il_base.specs.core_table.Record.{field_rows}
use Rattle.il_base.proofs.core_table.rows.push_fields.Given as goal

abbrev pub invariant-loop-field : goal.invariant-loop-field
invariant-loop-field l = l.rows ++ field_rows (drop l.field-index l.fields) ≡ l.initial.rows ++ field_rows l.fields
