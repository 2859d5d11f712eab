use Rattle.std.proofs.Common.{◌≡◌, ◌++◌, ◌-◌, reverse}
use Rattle.rules.specs.mark_rules.Attributes.{path_within}
use Rattle.mark_parts.specs.mark_tables.Assemblies.{rec_of}
use Rattle.attribute_values.proofs.enum_names.paths.chain_of.Given as goal

abbrev pub invariant-loop : goal.invariant-loop
invariant-loop l = path_within (rec_of l.asm) (l.steps - l.counter) l.at ++ reverse l.inner ≡ path_within (rec_of l.asm) l.steps l.row
