use Rattle.std.proofs.Common.{◌≡◌, ◌++◌, drop}
use Rattle.rules.specs.type_rules.Rows.{each_from}
use Rattle.rules.specs.mark_rules.Calls.{declared_in}
use Rattle.mark_parts.specs.mark_tables.Assemblies.{all_of}
use Rattle.mark_items.proofs.mark_calls.declarations.add_declared.Given as goal

abbrev pub invariant-loop-a : goal.invariant-loop-a
invariant-loop-a l =
    l.facts ++ each_from (declared_in (all_of l.marker) l.at) l.a (drop l.a l.all) ≡ l.initial.facts ++ each_from (declared_in (all_of l.marker) l.at) 0 l.all
