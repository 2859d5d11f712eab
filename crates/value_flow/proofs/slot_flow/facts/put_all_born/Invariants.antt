use Rattle.std.proofs.Common.{◌≡◌, ◌++◌, drop}
use Rattle.std.specs.List.{flat_map}
use Rattle.value_flow.specs.slot_flow.Facts.{born_along_facts}
use Rattle.value_flow.proofs.slot_flow.facts.put_all_born.Given as goal

abbrev pub invariant-loop-step : goal.invariant-loop-step
invariant-loop-step l =
    l.facts ++ flat_map (born_along_facts l.f l.pairs) (drop l.step-index l.steps) ≡ l.initial.facts ++ flat_map (born_along_facts l.f l.pairs) l.steps
