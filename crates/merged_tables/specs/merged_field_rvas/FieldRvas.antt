-- FieldRVA rows of kept fields, by the tables of the output.
use Rattle.std.specs.Prelude.{ℕ, ◌+◌, ◌%◌, List, map}
use Rattle.std.specs.List.{flat_map}
use Rattle.il_base.specs.declared.world_model.extras.FieldRvaRow.{FieldRvaRow}
use Rattle.il_base.specs.declared.world_model.record.AsmRec.{AsmRec}
use Rattle.rules.specs.file_layout.Bytes.{aligned}
use Rattle.rules.specs.file_layout.Image.{code_rva}
use Rattle.rules.specs.link_rules.Cycles.{listed}
use Rattle.rules.specs.merge_rules.Sorted.{by_key}
use Rattle.rules.specs.merge_rules.Restricted.{placed_bytes}
use Rattle.merge_plan.specs.declared.kept_tables.tables.KeptTables.{KeptTables}
use Rattle.merge_plan.specs.kept_tables.Kept.{token_by}
use Rattle.merged_tables.specs.merged_rows.Belonging.{of_inputs}

-- a row whose bytes have this many before them
abbrev pub placed_row : ℕ → FieldRvaRow → FieldRvaRow
placed_row before row = record row { rva = (code_rva + aligned 8 before) % 4294967296 }

abbrev pub field_rva_by : KeptTables → ℕ → FieldRvaRow → List FieldRvaRow
field_rva_by k a row = map (λ field. record row { field = field }) (listed (token_by k a row.field))

abbrev pub field_rvas_in : KeptTables → ℕ → AsmRec → List FieldRvaRow
field_rvas_in k a rec = flat_map (field_rva_by k a) rec.field_rva

abbrev pub field_rvas_by : KeptTables → List AsmRec → ℕ → List FieldRvaRow
field_rvas_by k recs before = placed_bytes before (by_key (λ (row : FieldRvaRow). row.field) (of_inputs (field_rvas_in k) recs))
