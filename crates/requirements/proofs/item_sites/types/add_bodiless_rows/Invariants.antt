use Rattle.std.proofs.Common.{◌≡◌, ◌++◌, drop}
use Rattle.std.specs.List.{flat_map, filter}
use Rattle.mark_parts.specs.mark_tables.Assemblies.{all_of}
use Rattle.rules.specs.site_rules.Bodies.{head_parts}
use Rattle.rules.specs.site_rules.Types.{has_no_body}
use Rattle.requirements.proofs.item_sites.types.add_bodiless_rows.Given as goal

abbrev pub invariant-loop-at : goal.invariant-loop-at
invariant-loop-at l =
    l.parts ++ flat_map (head_parts (all_of l.marker)) (filter (has_no_body (all_of l.marker)) (drop l.at-index l.rows))
    ≡ l.initial.parts ++ flat_map (head_parts (all_of l.marker)) (filter (has_no_body (all_of l.marker)) l.rows)
