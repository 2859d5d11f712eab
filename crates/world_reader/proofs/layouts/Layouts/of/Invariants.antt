-- The size that was kept, or else the one that the rest has.
use Rattle.std.proofs.Common.{◌≡◌, ℕ, drop}
use Rattle.std.specs.HashMap.{get}
use Rattle.std.specs.Prelude.{nat_eq}
use Rattle.rules.specs.record_format.Parts.{layout_size}
use Rattle.world_reader.proofs.First.{or_else}
use Rattle.world_reader.proofs.layouts.Layouts.of.Given as goal

abbrev pub invariant-loop-row : goal.invariant-loop-row
invariant-loop-row l = (q : ℕ) → or_else (get nat_eq l.sizes q) (layout_size (drop l.row-index l.row-items) q) ≡ layout_size l.row-items q
