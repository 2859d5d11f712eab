use Rattle.std.proofs.Common.{◌≡◌, ◌++◌, drop}
use Rattle.value_flow.specs.slot_flow.Facts.{facts_along}
use Rattle.value_flow.proofs.slot_flow.facts.put_along.Given as goal

abbrev pub invariant-loop-pair : goal.invariant-loop-pair
invariant-loop-pair l = l.facts ++ facts_along l.f l.step (drop l.pair-index l.pairs) ≡ l.initial.facts ++ facts_along l.f l.step l.pairs
