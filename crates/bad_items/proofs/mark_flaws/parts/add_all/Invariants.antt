use Rattle.std.proofs.Common.{◌≡◌, ◌++◌, drop, map}
use Rattle.std.specs.List.{flat_map}
use Rattle.rules.specs.mark_rules.BadItems.{part_flaw}
use Rattle.mark_parts.specs.mark_facts.Told.{part_told}
use Rattle.bad_items.proofs.mark_flaws.parts.add_all.Given as goal

abbrev pub invariant-loop-part : goal.invariant-loop-part
invariant-loop-part l =
    l.flaws ++ flat_map (part_flaw l.at) (map part_told (drop l.part-index l.parts)) ≡ l.initial.flaws ++ flat_map (part_flaw l.at) (map part_told l.parts)
