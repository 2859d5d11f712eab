-- Places of rows in the file.
use Rattle.std.specs.Prelude.{ℕ, ◌+◌, ◌&&◌, nat_lt, List, Option, Some, None, if◌then◌else◌}
use Rattle.il_base.specs.cli_format.Tables.{names_row, row_place}
use Rattle.il_base.specs.cli_format.Metadata.{tables_stream, tables_base}

-- the place of a row of one of II.22's tables, where it has that row
abbrev pub row_offset_of : List ℕ → ℕ → ℕ → ℕ → Option ℕ
row_offset_of bs base t r =
    if nat_lt t 45 && names_row (tables_stream bs) t r then Some (tables_base bs base + row_place (tables_stream bs) t r) else None
