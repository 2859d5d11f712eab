use Rattle.std.proofs.Common.{◌≡◌, drop}
use Rattle.std.specs.List.{list_any}
use Rattle.virtual_calls.specs.named_members.Hiding.{hides}
use Rattle.virtual_calls.proofs.named_members.overrides.is_hidden.Given as goal

abbrev pub invariant-loop-y : goal.invariant-loop-y
invariant-loop-y l = list_any (λ y. hides l.tables.world.now.recs l.types l.kind y l.x) (drop l.y-index l.found) ≡ list_any (λ y. hides l.tables.world.now.recs l.types l.kind y l.x) l.found
