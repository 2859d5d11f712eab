use Rattle.std.proofs.Common.{◌≡◌, drop}
use Rattle.rules.specs.link_rules.Cycles.{add_all, same_row}
use Rattle.mark_items.proofs.mark_calls.implied.add_all.Given as goal

abbrev pub invariant-loop-at : goal.invariant-loop-at
invariant-loop-at l = add_all same_row l.found.items (drop l.at-index l.rows) ≡ add_all same_row l.initial.found.items l.rows
