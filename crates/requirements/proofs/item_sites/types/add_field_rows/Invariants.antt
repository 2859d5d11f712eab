use Rattle.std.proofs.Common.{◌≡◌, ◌++◌, drop}
use Rattle.std.specs.List.{flat_map}
use Rattle.rules.specs.mark_rules.Types.{parts_of_field}
use Rattle.mark_parts.specs.mark_tables.Assemblies.{all_of}
use Rattle.requirements.proofs.item_sites.types.add_field_rows.Given as goal

abbrev pub invariant-loop-at : goal.invariant-loop-at
invariant-loop-at l = l.parts ++ flat_map (parts_of_field (all_of l.marker)) (drop l.at-index l.rows) ≡ l.initial.parts ++ flat_map (parts_of_field (all_of l.marker)) l.rows
