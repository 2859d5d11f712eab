use Rattle.std.proofs.Common.{◌≡◌, drop}
use Rattle.std.specs.List.{flat_map}
use Rattle.rules.specs.mark_rules.Attributes.{first_size, field_size}
use Rattle.mark_parts.specs.mark_tables.Assemblies.{all_of}
use Rattle.mark_parts.proofs.mark_sizes.enums.first_size.Given as goal

abbrev pub invariant-loop-at : goal.invariant-loop-at
invariant-loop-at l = first_size (flat_map (field_size (all_of l.marker)) (drop l.at-index l.rows)) ≡ first_size (flat_map (field_size (all_of l.marker)) l.rows)
