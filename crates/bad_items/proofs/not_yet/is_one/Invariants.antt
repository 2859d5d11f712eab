use Rattle.std.proofs.Common.{◌≡◌, drop, map}
use Rattle.std.specs.List.{list_any}
use Rattle.rules.specs.mark_rules.NotYet.{is_operand}
use Rattle.mark_parts.specs.mark_facts.Told.{part_told}
use Rattle.bad_items.proofs.not_yet.is_one.Given as goal

abbrev pub invariant-loop-part : goal.invariant-loop-part
invariant-loop-part l = list_any (is_operand l.world.recs) (map part_told (drop l.part-index l.parts)) ≡ list_any (is_operand l.fn.world.recs) (map part_told l.fn.parts)
