use Rattle.std.proofs.Common.{◌≡◌, ◌-◌, ◌++◌, map}
use Rattle.std.specs.List.{range_with_len}
use Rattle.mark_parts.specs.mark_tables.Assemblies.{all_of}
use Rattle.descriptor_texts.specs.slashed_names.Names.{names_at}
use Rattle.descriptor_texts.proofs.slashed_names.names.SlashedNames.of.Given as goal

abbrev pub invariant-loop-asm : goal.invariant-loop-asm
invariant-loop-asm l = l.names ++ map (names_at (all_of l.marker)) (range_with_len l.asm (l.count - l.asm)) ≡ map (names_at (all_of l.marker)) (range_with_len 0 l.count)
