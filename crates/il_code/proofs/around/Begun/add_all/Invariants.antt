use Rattle.std.proofs.Common.{ℕ, ◌+◌}
use Rattle.il_code.specs.Around.{HasBegun}
use Rattle.il_code.proofs.around.Begun.add_all.Given as goal

abbrev pub invariant-loop-b : goal.invariant-loop-b
invariant-loop-b l = (place : ℕ) → HasBegun l.blocks l.from place l.fn.self → HasBegun l.blocks (l.from + l.b-index) place l.self
