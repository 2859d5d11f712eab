use Rattle.std.proofs.Common.{◌≡◌, ◌∷◌, ◌++◌, map, drop}
use Rattle.std.specs.List.{flat_map}
use Rattle.record_writer.specs.metadata_writer.Lengths.{user_put}
use Rattle.record_writer.proofs.metadata_writer.heaps.users.Given as goal

abbrev pub invariant-loop-text : goal.invariant-loop-text
invariant-loop-text l = l.bytes.items ++ flat_map user_put (map (λ t. t.text) (drop l.text-index l.texts)) ≡ 0 ∷ flat_map user_put (map (λ t. t.text) l.texts)
