use Rattle.std.proofs.Common.{◌≡◌, ◌∷◌, ◌++◌, length, map, drop}
use Rattle.std.specs.List.{flat_map}
use Rattle.record_writer.specs.metadata_writer.Places.{starts_of}
use Rattle.record_writer.specs.metadata_writer.Lengths.{blob_put}
use Rattle.record_writer.proofs.metadata_writer.heaps.blobs.Given as goal

abbrev pub invariant-loop-item : goal.invariant-loop-item
invariant-loop-item l = record {
  bytes : l.bytes.items ++ flat_map blob_put (map (λ v. v.items) (drop l.item-index l.item-items)) ≡ 0 ∷ flat_map blob_put (map (λ v. v.items) l.item-items);
  starts : l.starts.items ++ starts_of blob_put (length l.bytes.items) (map (λ v. v.items) (drop l.item-index l.item-items)) ≡ starts_of blob_put 1 (map (λ v. v.items) l.item-items);
}
