use Rattle.std.proofs.Common.{◌≡◌, ℕ, ◌+◌, ◌-◌, ◌≤◌, length, drop}
use Rattle.il_base.specs.body_grammar.Instructions as grammar
use Rattle.il_code.proofs.instructions.code.Given as goal

-- the instructions so far and those in what is left are all of them
abbrev pub invariant-loop-at : goal.invariant-loop-at
invariant-loop-at l =
    (bound : ℕ) × (length l.bytes ≤ bound + l.at)
    × (l.at ≤ length l.bytes)
    × (grammar.code_after bound l.base l.at l.code (drop l.at l.bytes) ≡ grammar.code_at l.base l.bytes)

abbrev pub decreases-loop-at : goal.decreases-loop-at
decreases-loop-at l = length l.bytes - l.at
