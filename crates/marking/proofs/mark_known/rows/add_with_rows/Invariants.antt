use Rattle.std.proofs.Common.{◌≡◌, ◌++◌, drop}
use Rattle.std.specs.List.{flat_map}
use Rattle.rules.specs.declared.link_rules.row_at.RowAt.{RowAt}
use Rattle.base_laws.specs.known_laws.Known.{row_gives, own_rows}
use Rattle.marking.specs.mark_known.Facts.{recs_in, knows, interface_by}
use Rattle.marking.proofs.mark_known.rows.add_with_rows.Given as goal

abbrev pub invariant-loop-c : goal.invariant-loop-c
invariant-loop-c l =
    l.facts ++ flat_map (λ (c : RowAt). flat_map (row_gives (recs_in l.k) (knows l.k) (interface_by l.rule (recs_in l.k) l.t)) (own_rows (recs_in l.k) c)) (drop l.c-index l.types) ≡ l.initial.facts ++ flat_map (λ (c : RowAt). flat_map (row_gives (recs_in l.k) (knows l.k) (interface_by l.rule (recs_in l.k) l.t)) (own_rows (recs_in l.k) c)) l.types
