use Rattle.std.proofs.Common.{◌≡◌, ◌++◌, drop}
use Rattle.std.specs.List.{flat_map}
use Rattle.base_laws.specs.known_laws.Known.{slot_gives}
use Rattle.marking.specs.mark_known.Facts.{recs_in, knows, class_by}
use Rattle.marking.proofs.mark_known.slots.add_slots.Given as goal

abbrev pub invariant-loop-b : goal.invariant-loop-b
invariant-loop-b l =
    l.facts ++ flat_map (slot_gives (recs_in l.k) (knows l.k) (class_by l.rule (recs_in l.k) l.t)) (drop l.b-index l.bs) ≡ l.initial.facts ++ flat_map (slot_gives (recs_in l.k) (knows l.k) (class_by l.rule (recs_in l.k) l.t)) l.bs
