use Rattle.std.proofs.Common.{◌≡◌, ◌++◌, drop}
use Rattle.rules.specs.flow_rules.Carrying.{held}
use Rattle.value_flow.specs.slot_flow.Facts.{fact_of, numbered, begin_facts}
use Rattle.value_flow.proofs.slot_flow.facts.put_begin.Given as goal

abbrev pub invariant-loop-slot : goal.invariant-loop-slot
invariant-loop-slot l =
    l.facts ++ numbered (λ slot s. fact_of l.f (held 0 slot s)) l.slot (drop l.slot l.f.begins.now) ≡ l.initial.facts ++ begin_facts l.f
