use Rattle.std.proofs.Common.{◌≡◌, ◌++◌, drop}
use Rattle.rules.specs.mark_rules.Naming.{mark_types}
use Rattle.mark_dependencies.proofs.mark_attributes.values.add_types.Given as goal

abbrev pub invariant-loop-id : goal.invariant-loop-id
invariant-loop-id l = l.facts ++ mark_types (drop l.id-index l.types) ≡ l.initial.facts ++ mark_types l.types
