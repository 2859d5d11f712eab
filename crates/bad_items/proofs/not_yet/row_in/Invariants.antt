use Rattle.std.proofs.Common.{◌≡◌, ℕ, ◌-◌}
use Rattle.rules.specs.link_rules.Types.{at_row}
use Rattle.mark_parts.specs.mark_tables.Assemblies.{all_of}
use Rattle.bad_items.specs.Searches.{found_from, is_waiting}
use Rattle.bad_items.proofs.not_yet.row_in.Given as goal

abbrev pub invariant-loop-row : goal.invariant-loop-row
invariant-loop-row l =
    found_from (λ (k : ℕ). is_waiting (all_of l.marker) l.marked (at_row l.asm k)) (l.count - l.row) l.row
    ≡ found_from (λ (k : ℕ). is_waiting (all_of l.marker) l.marked (at_row l.asm k)) l.count 0
