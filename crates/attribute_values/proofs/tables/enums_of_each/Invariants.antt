use Rattle.std.proofs.Common.{◌≡◌, length}
use Rattle.mark_parts.specs.mark_tables.Assemblies.{all_of}
use Rattle.attribute_values.specs.Tables.{AreEnums}
use Rattle.attribute_values.proofs.tables.enums_of_each.Given as goal

abbrev pub invariant-loop-from : goal.invariant-loop-from
invariant-loop-from l = (length l.lists.items ≡ l.from) × AreEnums (all_of l.marker) l.lists.items
