use Rattle.std.proofs.Common.{◌≡◌, drop}
use Rattle.std.specs.List.{flat_map}
use Rattle.rules.specs.mark_rules.Attributes.{head_of}
use Rattle.mark_items.specs.mark_named.Setters.{setter_at}
use Rattle.mark_items.proofs.mark_named.setters.first_setter.Given as goal

abbrev pub invariant-loop-k : goal.invariant-loop-k
invariant-loop-k l = head_of (flat_map (setter_at l.rec) (drop l.k-index l.rows)) ≡ head_of (flat_map (setter_at l.rec) l.rows)
