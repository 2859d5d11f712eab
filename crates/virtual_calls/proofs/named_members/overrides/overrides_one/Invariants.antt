use Rattle.std.proofs.Common.{◌≡◌, drop}
use Rattle.std.specs.List.{list_any}
use Rattle.rules.specs.type_rules.Searches.{overrides}
use Rattle.virtual_calls.proofs.named_members.overrides.overrides_one.Given as goal

abbrev pub invariant-loop-other : goal.invariant-loop-other
invariant-loop-other l = list_any (overrides l.tables.world.now.recs l.types l.method) (drop l.other-index l.others) ≡ list_any (overrides l.tables.world.now.recs l.types l.method) l.others
