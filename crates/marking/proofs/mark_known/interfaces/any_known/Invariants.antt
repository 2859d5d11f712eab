use Rattle.std.proofs.Common.{◌≡◌, drop}
use Rattle.std.specs.List.{list_any}
use Rattle.base_laws.specs.known_laws.Known.{is_known_type}
use Rattle.marking.specs.mark_known.Facts.{recs_in, knows}
use Rattle.marking.proofs.mark_known.interfaces.any_known.Given as goal

abbrev pub invariant-loop-at : goal.invariant-loop-at
invariant-loop-at l =
    list_any (is_known_type (recs_in l.k) (knows l.k)) (drop l.at-index l.types) ≡ list_any (is_known_type (recs_in l.k) (knows l.k)) l.types
