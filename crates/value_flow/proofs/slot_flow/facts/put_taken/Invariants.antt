use Rattle.std.proofs.Common.{◌≡◌, ◌++◌, drop}
use Rattle.std.specs.List.{flat_map}
use Rattle.rules.specs.flow_rules.Carrying.{held}
use Rattle.value_flow.specs.slot_flow.Facts.{fact_of, taken_facts}
use Rattle.value_flow.proofs.slot_flow.facts.put_taken.Given as goal

abbrev pub invariant-loop-slot : goal.invariant-loop-slot
invariant-loop-slot l =
    l.facts ++ flat_map (λ slot. fact_of l.f (held l.i slot l.f.unknown)) (drop l.slot-index l.f.taken.now) ≡ l.initial.facts ++ taken_facts l.f l.i
