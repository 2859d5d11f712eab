-- What the steps of writing metadata give.
use Rattle.std.specs.Prelude.{◌≡◌, ℕ, ◌<◌, ◌^◌, List, length}
use Rattle.rules.specs.file_layout.Heaps.{string_item, strings_heap, guids_heap}
use Rattle.rules.specs.file_layout.Cells.{Pools}
use Rattle.record_writer.specs.declared.metadata_writer.streams.Heaps.{Heaps}
use Rattle.record_writer.specs.metadata_writer.Places.{starts_of}
use Rattle.record_writer.specs.metadata_writer.Lengths.{blob_put, blobs_put, users_put}

-- bytes that are as many as those that are laid out, and the same where these are few enough for each length to have a
-- spelling
pub record IsPut (put laid : List ℕ) : Type 0 where
  pub len : length put ≡ length laid
  pub exact : length laid < 2 ^ 29 → put ≡ laid

-- the heaps of items and user texts
pub record AreHeaps (h : Heaps) (pools : Pools) (user : List (List ℕ)) : Type 0 where
  pub strings : h.strings.bytes.items ≡ strings_heap pools.texts
  pub texts : h.strings.starts.items ≡ starts_of string_item 1 pools.texts
  pub users : h.users.items ≡ users_put user
  pub guids : h.guids.items ≡ guids_heap pools.guids
  pub blobs : h.blobs.bytes.items ≡ blobs_put pools.blobs
  pub places : h.blobs.starts.items ≡ starts_of blob_put 1 pools.blobs
