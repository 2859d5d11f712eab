use Rattle.std.proofs.Common.{◌≡◌, ◌-◌, ◌++◌, map}
use Rattle.std.specs.List.{range_with_len}
use Rattle.rules.specs.mark_rules.Roots.{slashed_name}
use Rattle.mark_parts.specs.mark_tables.Assemblies.{rec_of}
use Rattle.descriptor_texts.proofs.slashed_names.names.names_in.Given as goal

abbrev pub invariant-loop-row : goal.invariant-loop-row
invariant-loop-row l = l.names ++ map (slashed_name (rec_of l.asm)) (range_with_len l.row (l.count - l.row)) ≡ map (slashed_name (rec_of l.asm)) (range_with_len 0 l.count)
