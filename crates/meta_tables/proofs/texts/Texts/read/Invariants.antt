-- From the place on it is known where texts begin, and which place is the next at which no character goes on.
use Rattle.std.proofs.Common.{◌≡◌, ◌≤◌, length}
use Rattle.meta_tables.specs.Held.{AreGood, AreTails, IsLead}
use Rattle.meta_tables.proofs.texts.Texts.read.Given as goal

abbrev pub invariant-loop-at : goal.invariant-loop-at
invariant-loop-at l = record {
  size : length l.good.items ≡ length l.heap;
  order : l.at ≤ l.next;
  reach : l.next ≤ length l.heap;
  good : AreGood l.heap l.good.items l.at;
  tails : AreTails l.heap l.at l.next;
  lead : IsLead l.heap l.next;
}

abbrev pub decreases-loop-at : goal.decreases-loop-at
decreases-loop-at l = l.at
