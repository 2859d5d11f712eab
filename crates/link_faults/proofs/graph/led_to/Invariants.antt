use Rattle.std.proofs.Common.{◌≡◌, ◌-◌, nat_eq}
use Rattle.rules.specs.link_rules.Cycles.{led_to}
use Rattle.link_faults.specs.Graphs.{next_in, AreMarked}
use Rattle.link_faults.proofs.Leading.{Looked}
use Rattle.link_faults.proofs.Marks.{itself}
use Rattle.link_faults.proofs.graph.led_to.Given as goal

abbrev pub invariant-loop-step : goal.invariant-loop-step
invariant-loop-step l = record {
  led : led_to nat_eq (next_in l.graph) (l.steps - l.step) l.found.nodes ≡ led_to nat_eq (next_in l.graph) l.steps l.nodes;
  looked : Looked nat_eq itself (next_in l.graph) l.looked_at l.found.nodes;
  marked : AreMarked l.found.marks.items l.found.nodes;
}
