use Rattle.std.proofs.Common.{◌≡◌, ◌==◌, find, not, drop}
use Rattle.rules.specs.declared.link_rules.row_at.RowAt.{RowAt}
use Rattle.merge_plan.proofs.rivals.of_another.Given as goal

abbrev pub invariant-loop-at : goal.invariant-loop-at
invariant-loop-at l = find (λ (at : RowAt). not (at.asm == l.asm)) (drop l.at-index l.rows) ≡ find (λ (at : RowAt). not (at.asm == l.asm)) l.rows
