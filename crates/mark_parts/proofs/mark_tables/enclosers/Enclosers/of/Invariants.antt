-- The encloser that was kept, or else the one that the rest has.
use Rattle.std.proofs.Common.{◌≡◌, ℕ, drop, nat_eq}
use Rattle.std.specs.HashMap.{get}
use Rattle.std.specs.Option.{unwrap_or}
use Rattle.rules.specs.link_rules.Types.{encloser_in}
use Rattle.mark_parts.proofs.mark_tables.enclosers.Enclosers.of.Given as goal

abbrev pub invariant-loop-row : goal.invariant-loop-row
invariant-loop-row l = (q : ℕ) → unwrap_or (get nat_eq l.rows q) (encloser_in q (drop l.row-index l.row-items)) ≡ encloser_in q l.row-items
