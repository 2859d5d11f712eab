use Rattle.std.proofs.Common.{◌≡◌, length}
use Rattle.std.specs.HashMap.{get}
use Rattle.std.specs.Prelude.{nat_eq}
use Rattle.il_base.specs.first_places.Near.{AgreesWith}
use Rattle.il_base.proofs.first_places.near.near_places.Given as goal

abbrev pub invariant-loop-key : goal.invariant-loop-key
invariant-loop-key l = AgreesWith (get nat_eq l.map) l.near.items × (length l.near.items ≡ l.key-counter)
