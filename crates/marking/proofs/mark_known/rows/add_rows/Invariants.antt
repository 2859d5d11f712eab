use Rattle.std.proofs.Common.{◌≡◌, ◌++◌, drop}
use Rattle.std.specs.List.{flat_map}
use Rattle.base_laws.specs.known_laws.Known.{row_gives}
use Rattle.marking.specs.mark_known.Facts.{recs_in, knows, interface_by}
use Rattle.marking.proofs.mark_known.rows.add_rows.Given as goal

abbrev pub invariant-loop-r : goal.invariant-loop-r
invariant-loop-r l =
    l.facts ++ flat_map (row_gives (recs_in l.k) (knows l.k) (interface_by l.rule (recs_in l.k) l.t)) (drop l.r-index l.rs) ≡ l.initial.facts ++ flat_map (row_gives (recs_in l.k) (knows l.k) (interface_by l.rule (recs_in l.k) l.t)) l.rs
