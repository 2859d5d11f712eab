-- The five streams of a file's metadata, by its cells and user texts (II.24.2).
use Rattle.std.specs.Prelude.{ℕ, List, length}
use Rattle.rules.specs.file_layout.Heaps.{strings_heap, users_heap, guids_heap, blobs_heap, heap_bits}
use Rattle.rules.specs.file_layout.TableStream.{tables_stream}
use Rattle.rules.specs.file_layout.Metadata.{Streams}
use Rattle.rules.specs.file_layout.Cells.{Pools, CellTables, numbers_of}

-- HeapSizes, by the heaps' lengths
abbrev pub sizes_of : Pools → ℕ
sizes_of pools = heap_bits (length (strings_heap pools.texts)) (length (guids_heap pools.guids)) (length (blobs_heap pools.blobs))

-- the streams of tables whose items are in these pools, with these user texts
unfoldable pub streams_with : Pools → CellTables → List (List ℕ) → Streams
streams_with pools tables users = record {
  tables = tables_stream (sizes_of pools) (numbers_of pools tables);
  strings = strings_heap pools.texts;
  users = users_heap users;
  guids = guids_heap pools.guids;
  blobs = blobs_heap pools.blobs;
}
