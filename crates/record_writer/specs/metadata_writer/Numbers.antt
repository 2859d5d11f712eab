-- The places of items, by where they begin.
use Rattle.std.specs.Prelude.{◌≡◌, ℕ, List, [], ◌∷◌, map}
use Rattle.rules.specs.declared.file_layout.cell.Cell.{Cell}
use Rattle.rules.specs.file_layout.Cells.{Pools, number_of}
use Rattle.rules.specs.file_layout.Heaps.{string_item}
use Rattle.record_writer.specs.declared.metadata_writer.numbers.Places.{Places}
use Rattle.record_writer.specs.metadata_writer.Places.{starts_of}
use Rattle.record_writer.specs.metadata_writer.Lengths.{blob_put}

-- the place of an item, 0 for the empty one
abbrev pub place_or_none : (List ℕ → ℕ) → List ℕ → ℕ
place_or_none place [] = 0
place_or_none place (c ∷ cs) = place (c ∷ cs)

-- places that are those of the pools' items
pub record ArePlaces (p : Places) : Type 0 where
  pub strings : p.strings.now ≡ starts_of string_item 1 p.pools.now.texts
  pub blobs : p.blobs.now ≡ starts_of blob_put 1 p.pools.now.blobs

-- the numbers of a table's rows
unfoldable pub rows_numbers : Pools → List (List Cell) → List (List ℕ)
rows_numbers pools rows = map (λ row. map (number_of pools) row) rows
