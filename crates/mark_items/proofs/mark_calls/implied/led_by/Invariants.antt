use Rattle.std.proofs.Common.{◌≡◌, ◌++◌, drop}
use Rattle.std.specs.List.{flat_map}
use Rattle.rules.specs.link_rules.Cycles.{interface_rows}
use Rattle.mark_parts.specs.mark_tables.Assemblies.{all_of}
use Rattle.mark_items.proofs.mark_calls.implied.led_by.Given as goal

abbrev pub invariant-loop-at : goal.invariant-loop-at
invariant-loop-at l = l.led.items ++ flat_map (interface_rows (all_of l.marker)) (drop l.at-index l.types) ≡ flat_map (interface_rows (all_of l.marker)) l.types
