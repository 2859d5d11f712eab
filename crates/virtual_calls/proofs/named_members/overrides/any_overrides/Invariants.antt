use Rattle.std.proofs.Common.{◌≡◌, drop}
use Rattle.std.specs.List.{list_any}
use Rattle.rules.specs.type_rules.Searches.{overrides}
use Rattle.virtual_calls.proofs.named_members.overrides.any_overrides.Given as goal

abbrev pub invariant-loop-method : goal.invariant-loop-method
invariant-loop-method l = list_any (λ m. list_any (overrides l.tables.world.now.recs l.types m) l.others) (drop l.method-index l.methods) ≡ list_any (λ m. list_any (overrides l.tables.world.now.recs l.types m) l.others) l.methods
