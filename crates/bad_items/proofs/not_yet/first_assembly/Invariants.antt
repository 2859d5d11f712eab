use Rattle.std.proofs.Common.{◌≡◌, ℕ, ◌-◌}
use Rattle.std.specs.Option.{is_some}
use Rattle.mark_parts.specs.mark_tables.Assemblies.{all_of}
use Rattle.bad_items.specs.Searches.{found_from, first_row, first_assembly}
use Rattle.bad_items.proofs.not_yet.first_assembly.Given as goal

abbrev pub invariant-loop-asm : goal.invariant-loop-asm
invariant-loop-asm l =
    found_from (λ (asm : ℕ). is_some (first_row (all_of l.marker) l.marked asm)) (l.count - l.asm) l.asm ≡ first_assembly (all_of l.marker) l.marked
