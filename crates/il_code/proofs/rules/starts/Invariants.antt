use Rattle.std.proofs.Common.{◌≡◌, ℕ, ◌<◌, ◌||◌, length, drop, get_or, false}
use Rattle.il_base.specs.body_grammar.HandlerRules as nesting
use Rattle.il_code.proofs.rules.starts.Given as goal

abbrev pub invariant-loop-instr : goal.invariant-loop-instr
invariant-loop-instr l =
    (length l.starts.items ≡ l.size)
    × ((k : ℕ) → k < l.size → (get_or l.starts.items k false || nesting.begins (drop l.instr-index l.code) k) ≡ nesting.begins l.code k)
