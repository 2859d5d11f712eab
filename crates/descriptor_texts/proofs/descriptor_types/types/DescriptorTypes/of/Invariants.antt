use Rattle.std.proofs.Common.{take}
use Rattle.std.specs.List.{AllZip}
use Rattle.mark_parts.specs.mark_tables.Assemblies.{all_of}
use Rattle.descriptor_texts.specs.descriptor_types.Rows.{AreTypeRows}
use Rattle.descriptor_texts.proofs.descriptor_types.types.DescriptorTypes.of.Given as goal

abbrev pub invariant-loop-asm : goal.invariant-loop-asm
invariant-loop-asm l = AllZip AreTypeRows (take l.asm (all_of l.marker)) l.rows.items
