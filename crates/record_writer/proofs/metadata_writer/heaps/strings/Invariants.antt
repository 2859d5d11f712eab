use Rattle.std.proofs.Common.{◌≡◌, ◌∷◌, ◌++◌, length, map, drop}
use Rattle.std.specs.List.{flat_map}
use Rattle.rules.specs.file_layout.Heaps.{string_item}
use Rattle.record_writer.specs.metadata_writer.Places.{starts_of}
use Rattle.record_writer.proofs.metadata_writer.heaps.strings.Given as goal

abbrev pub invariant-loop-text : goal.invariant-loop-text
invariant-loop-text l = record {
  bytes : l.bytes.items ++ flat_map string_item (map (λ v. v.items) (drop l.text-index l.text-items)) ≡ 0 ∷ flat_map string_item (map (λ v. v.items) l.text-items);
  starts : l.starts.items ++ starts_of string_item (length l.bytes.items) (map (λ v. v.items) (drop l.text-index l.text-items)) ≡ starts_of string_item 1 (map (λ v. v.items) l.text-items);
}
