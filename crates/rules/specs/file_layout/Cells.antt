-- Cells that name items, and the numbers that stand for them once the heaps are made.
use Rattle.std.specs.Prelude.{ℕ, List, [], ◌∷◌, map}
use Rattle.std.specs.List.{flat_map}
use Rattle.rules.specs.declared.file_layout.cell.Cell.{Cell}
use Rattle.rules.specs.declared.file_layout.cell.Cell.TheVariants.{Number, Text, Blob, Guid}
use Rattle.rules.specs.file_layout.Interning.{each_once}
use Rattle.rules.specs.file_layout.Heaps.{string_place, blob_place, guid_number}
use Rattle.rules.specs.file_layout.TableStream.{Tables}

-- tables by their numbers, from 0; a row is its cells
abbrev pub CellTables : Type 0
CellTables = List (List (List Cell))

-- ---- the items that cells name, but for the empty ones

abbrev pub texts_of_cell : Cell → List (List ℕ)
texts_of_cell (Text (c ∷ cs)) = (c ∷ cs) ∷ []
texts_of_cell _ = []

abbrev pub blobs_of_cell : Cell → List (List ℕ)
blobs_of_cell (Blob (b ∷ bs)) = (b ∷ bs) ∷ []
blobs_of_cell _ = []

abbrev pub guids_of_cell : Cell → List (List ℕ)
guids_of_cell (Guid (b ∷ bs)) = (b ∷ bs) ∷ []
guids_of_cell _ = []

-- the items of all cells, in order of table, row and column
abbrev pub in_all : (Cell → List (List ℕ)) → CellTables → List (List ℕ)
in_all items tables = flat_map (λ rows. flat_map (λ row. flat_map items row) rows) tables

-- ---- the items of the heaps, each once

pub record Pools : Type 0 where
  pub texts : List (List ℕ)
  pub blobs : List (List ℕ)
  pub guids : List (List ℕ)

unfoldable pub pools_of : CellTables → Pools
pools_of tables = record {
  texts = each_once (in_all texts_of_cell tables);
  blobs = each_once (in_all blobs_of_cell tables);
  guids = each_once (in_all guids_of_cell tables);
}

-- the number that stands in a cell
abbrev pub number_of : Pools → Cell → ℕ
number_of pools (Number n) = n
number_of pools (Text t) = string_place pools.texts t
number_of pools (Blob b) = blob_place pools.blobs b
number_of pools (Guid g) = guid_number pools.guids g

unfoldable pub numbers_of : Pools → CellTables → Tables
numbers_of pools tables = map (λ rows. map (λ row. map (number_of pools) row) rows) tables
