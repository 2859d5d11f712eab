use Rattle.std.proofs.Common.{◌≡◌, ◌++◌, drop}
use Rattle.std.specs.List.{flat_map}
use Rattle.rules.specs.declared.link_rules.row_at.RowAt.{RowAt}
use Rattle.base_laws.specs.known_laws.Known.{slot_gives}
use Rattle.marking.specs.mark_known.Facts.{recs_in, knows, interface_by}
use Rattle.marking.proofs.mark_known.rows.add_slots.Given as goal

abbrev pub invariant-loop-b : goal.invariant-loop-b
invariant-loop-b l =
    l.facts ++ flat_map (slot_gives (recs_in l.k) (knows l.k) (λ (b : RowAt). interface_by l.rule (recs_in l.k) l.t b l.r)) (drop l.b-index l.bs) ≡ l.initial.facts ++ flat_map (slot_gives (recs_in l.k) (knows l.k) (λ (b : RowAt). interface_by l.rule (recs_in l.k) l.t b l.r)) l.bs
