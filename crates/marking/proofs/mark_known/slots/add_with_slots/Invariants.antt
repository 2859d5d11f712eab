use Rattle.std.proofs.Common.{◌≡◌, ◌++◌, drop}
use Rattle.std.specs.List.{flat_map}
use Rattle.rules.specs.declared.link_rules.row_at.RowAt.{RowAt}
use Rattle.base_laws.specs.known_laws.Known.{slot_gives, own_slots}
use Rattle.marking.specs.mark_known.Facts.{recs_in, knows, class_by}
use Rattle.marking.proofs.mark_known.slots.add_with_slots.Given as goal

abbrev pub invariant-loop-c : goal.invariant-loop-c
invariant-loop-c l =
    l.facts ++ flat_map (λ (c : RowAt). flat_map (slot_gives (recs_in l.k) (knows l.k) (class_by l.rule (recs_in l.k) l.t)) (own_slots (recs_in l.k) c)) (drop l.c-index l.types) ≡ l.initial.facts ++ flat_map (λ (c : RowAt). flat_map (slot_gives (recs_in l.k) (knows l.k) (class_by l.rule (recs_in l.k) l.t)) (own_slots (recs_in l.k) c)) l.types
