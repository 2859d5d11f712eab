-- Rows by their columns, and by the columns' widths.
use Rattle.std.proofs.Common.{◌≡◌, ℕ, ◌≤◌, List, [], ◌∷◌, ◌++◌, length, map, drop, refl, sym, ap, ◌∙◌}
use Rattle.std.proofs.lemmas.List.{drop_all, append-nil}
use Rattle.std.specs.List.{flat_map}
use Rattle.byteorder.specs.Endian.{little_bytes}
use Rattle.il_base.specs.declared.cli_format.column.Column.{Column}
use Rattle.il_base.specs.cli_format.Columns.{columns_of}
use Rattle.rules.specs.file_layout.TableStream.{Row, Tables, width, row_bytes, table_bytes}
use Rattle.record_writer.specs.metadata_writer.Cells.{cells_bytes}

row_by_widths : (sizes : ℕ) (tables : Tables) (cs : List Column) (row : Row) → row_bytes sizes tables cs row ≡ cells_bytes (map (width sizes tables) cs) row
unfolding row_bytes
row_by_widths sizes tables [] row = refl
row_by_widths sizes tables (c ∷ cs) [] = refl
row_by_widths sizes tables (c ∷ cs) (n ∷ ns) = ap (λ (bs : List ℕ). little_bytes (width sizes tables c) n ++ bs) (row_by_widths sizes tables cs ns)

rows_by_widths : (sizes : ℕ) (tables : Tables) (cs : List Column) (rows : List Row)
    → flat_map (row_bytes sizes tables cs) rows ≡ flat_map (cells_bytes (map (width sizes tables) cs)) rows
rows_by_widths sizes tables cs [] = refl
rows_by_widths sizes tables cs (r ∷ rs) = λ i. row_by_widths sizes tables cs r i ++ rows_by_widths sizes tables cs rs i

pub by_widths : (sizes : ℕ) (tables : Tables) (t : ℕ) (rows : List Row)
    → table_bytes sizes tables t rows ≡ flat_map (cells_bytes (map (width sizes tables) (columns_of t))) rows
by_widths sizes tables t rows = rows_by_widths sizes tables (columns_of t) rows

no_cells : (ws : List ℕ) → cells_bytes ws [] ≡ []
no_cells [] = refl
no_cells (w ∷ ws) = refl

-- no numbers are left
pub no_more_cells : (out total ws ns : List ℕ) (i : ℕ) → length ns ≤ i → out ++ cells_bytes (drop i ws) (drop i ns) ≡ total → out ≡ total
no_more_cells out total ws ns i le h =
    sym (append-nil out) ∙ ap (λ (bs : List ℕ). out ++ bs) (sym (no_cells (drop i ws)))
    ∙ ap (λ (ms : List ℕ). out ++ cells_bytes (drop i ws) ms) (sym (drop_all i ns le)) ∙ h
