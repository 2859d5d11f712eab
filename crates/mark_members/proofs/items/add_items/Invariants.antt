use Rattle.std.proofs.Common.{◌≡◌, ◌++◌, map, drop}
use Rattle.mark_parts.specs.mark_facts.Kinds.{item_at}
use Rattle.mark_members.proofs.items.add_items.Given as goal

abbrev pub invariant-loop-at : goal.invariant-loop-at
invariant-loop-at l = l.items.items ++ map (item_at l.all l.kind) (drop l.at-index l.rows) ≡ l.initial.items.items ++ map (item_at l.all l.kind) l.rows
