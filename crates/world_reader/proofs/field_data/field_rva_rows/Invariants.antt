-- The rows so far.
use Rattle.std.proofs.Common.{◌≡◌}
use Rattle.il_base.specs.cli_format.Image.{metadata_of}
use Rattle.rules.specs.record_format.Cells.{first_rows}
use Rattle.rules.specs.record_format.Others.{field_rva_row}
use Rattle.world_reader.proofs.field_data.field_rva_rows.Given as goal

abbrev pub invariant-loop-i : goal.invariant-loop-i
invariant-loop-i l = l.rows ≡ first_rows (field_rva_row l.file (metadata_of l.file) l.layouts l.fields) l.i
