use Rattle.std.proofs.Common.{◌≡◌, ℕ, ◌++◌, drop}
use Rattle.std.specs.Prelude.{Option}
use Rattle.value_flow.specs.slot_flow.Facts.{numbered, place_facts, root_facts}
use Rattle.value_flow.proofs.slot_flow.facts.root_facts.Given as goal

abbrev pub invariant-loop-i : goal.invariant-loop-i
invariant-loop-i l = l.facts ++ numbered (λ i (d : Option ℕ). place_facts l.f i) l.i (drop l.i l.f.depths.now) ≡ root_facts l.f
