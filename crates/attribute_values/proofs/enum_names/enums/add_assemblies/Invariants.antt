use Rattle.std.proofs.Common.{◌≡◌, ◌++◌, drop}
use Rattle.rules.specs.type_rules.Rows.{each_from}
use Rattle.mark_parts.specs.mark_tables.Assemblies.{all_of}
use Rattle.attribute_values.specs.enum_names.Enums.{enums_in}
use Rattle.attribute_values.proofs.enum_names.enums.add_assemblies.Given as goal

abbrev pub invariant-loop-a : goal.invariant-loop-a
invariant-loop-a l = l.enums ++ each_from (enums_in (all_of l.marker) l.from) l.a (drop l.a l.all) ≡ l.initial.enums ++ each_from (enums_in (all_of l.marker) l.from) 0 l.all
