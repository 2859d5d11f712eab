use Rattle.std.proofs.Common.{take}
use Rattle.std.specs.List.{AllZip}
use Rattle.mark_parts.specs.mark_tables.Assemblies.{all_of}
use Rattle.descriptor_texts.specs.nested_types.Nested.{AreNestedIn}
use Rattle.descriptor_texts.proofs.nested_types.nested.NestedTypes.of.Given as goal

abbrev pub invariant-loop-asm : goal.invariant-loop-asm
invariant-loop-asm l = AllZip AreNestedIn (take l.asm (all_of l.marker)) l.groups.items
