use Rattle.std.proofs.Common.{◌≡◌, ◌++◌, drop}
use Rattle.std.specs.List.{flat_map}
use Rattle.rules.specs.mark_rules.Members.{whole_nested}
use Rattle.mark_parts.specs.mark_tables.Assemblies.{all_of}
use Rattle.mark_members.proofs.nested.add_all_nested.Given as goal

abbrev pub invariant-loop-at : goal.invariant-loop-at
invariant-loop-at l = l.items.items ++ flat_map (whole_nested (all_of l.marker)) (drop l.at-index l.rows) ≡ l.initial.items.items ++ flat_map (whole_nested (all_of l.marker)) l.rows
