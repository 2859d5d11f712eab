-- Pools into which items are put.
use Rattle.std.specs.Prelude.{◌≡◌, ℕ, List, [], ◌∷◌}
use Rattle.rules.specs.declared.file_layout.cell.Cell.{Cell}
use Rattle.rules.specs.file_layout.Interning.{added_all}
use Rattle.rules.specs.file_layout.Cells as layout
use Rattle.rules.specs.file_layout.Cells.{texts_of_cell, blobs_of_cell, guids_of_cell}
use Rattle.record_writer.specs.declared.metadata_writer.pools.Pools.{Pools}

-- an item, unless it is empty
abbrev pub item_or_none : List ℕ → List (List ℕ)
item_or_none [] = []
item_or_none (c ∷ cs) = (c ∷ cs) ∷ []

-- the pools as the layout has them
abbrev pub pools : Pools → layout.Pools
pools p = record { texts = p.texts; blobs = p.blobs; guids = p.guids }

-- Some cells' items were put into the pools. `among` gives the items of the cells, by those of a cell.
pub record Gathers (among : (Cell → List (List ℕ)) → List (List ℕ)) (old new : Pools) : Type 0 where
  pub texts : new.texts ≡ added_all old.texts (among texts_of_cell)
  pub blobs : new.blobs ≡ added_all old.blobs (among blobs_of_cell)
  pub guids : new.guids ≡ added_all old.guids (among guids_of_cell)
