use Rattle.std.proofs.Common.{◌≡◌, ℕ, drop}
use Rattle.std.specs.Prelude.{nat_eq}
use Rattle.std.specs.HashMap.{get}
use Rattle.std.specs.Option.{option_or}
use Rattle.resolver.proofs.lemmas.type_links.Outers.{outer_in}
use Rattle.resolver.proofs.type_links.enclosers.Enclosers.of.Given as goal

abbrev pub invariant-loop-row : goal.invariant-loop-row
invariant-loop-row l = (q : ℕ) → option_or (get nat_eq l.rows q) (outer_in q (drop l.row-index l.row-items)) ≡ outer_in q l.row-items
