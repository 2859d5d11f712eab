use Rattle.std.proofs.Common.{◌≡◌, ◌++◌, drop}
use Rattle.std.specs.List.{flat_map}
use Rattle.mark_parts.specs.mark_tables.Assemblies.{rec_of}
use Rattle.descriptor_texts.specs.nested_types.Nested.{nested_at}
use Rattle.descriptor_texts.proofs.nested_types.nested.nested_among.Given as goal

abbrev pub invariant-loop-k : goal.invariant-loop-k
invariant-loop-k l = l.rows.items ++ flat_map (nested_at (rec_of l.asm) l.at) (drop l.k-index l.types) ≡ flat_map (nested_at (rec_of l.asm) l.at) l.types
