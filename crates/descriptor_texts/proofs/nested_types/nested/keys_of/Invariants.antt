use Rattle.std.proofs.Common.{◌≡◌, ◌-◌, ◌++◌, map}
use Rattle.std.specs.List.{range_with_len}
use Rattle.mark_parts.specs.mark_tables.Assemblies.{rec_of}
use Rattle.descriptor_texts.specs.nested_types.Nested.{key_of}
use Rattle.descriptor_texts.proofs.nested_types.nested.keys_of.Given as goal

abbrev pub invariant-loop-row : goal.invariant-loop-row
invariant-loop-row l = l.keys.items ++ map (key_of (rec_of l.asm)) (range_with_len l.row (l.count - l.row)) ≡ map (key_of (rec_of l.asm)) (range_with_len 0 l.count)
