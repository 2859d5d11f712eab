use Rattle.std.proofs.Common.{◌≡◌, ◌++◌, map, drop}
use Rattle.std.specs.List.{flat_map}
use Rattle.record_writer.proofs.metadata_writer.heaps.guids.Given as goal

abbrev pub invariant-loop-item : goal.invariant-loop-item
invariant-loop-item l = l.bytes.items ++ flat_map (λ g. g) (map (λ v. v.items) (drop l.item-index l.item-items)) ≡ flat_map (λ g. g) (map (λ v. v.items) l.item-items)
