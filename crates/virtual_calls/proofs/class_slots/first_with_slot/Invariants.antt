use Rattle.std.proofs.Common.{◌≡◌, ℕ, ◌+◌, ◌-◌}
use Rattle.std.specs.List.{range_with_len}
use Rattle.rules.specs.link_rules.Types.{at_row}
use Rattle.rules.specs.type_rules.Slots.{has_slot}
use Rattle.rules.specs.type_rules.Dispatch.{place_that}
use Rattle.virtual_calls.proofs.class_slots.first_with_slot.Given as goal

abbrev pub invariant-loop-i : goal.invariant-loop-i
invariant-loop-i l =
    place_that (λ (j : ℕ). has_slot l.tables.world.now.recs l.slot (at_row l.asm j)) (range_with_len (l.start + l.i) (l.count - l.i))
    ≡ place_that (λ (j : ℕ). has_slot l.tables.world.now.recs l.slot (at_row l.asm j)) (range_with_len l.start l.count)
