use Rattle.std.proofs.Common.{◌≡◌, ℕ, List, drop}
use Rattle.rules.specs.link_rules.Types.{or_else}
use Rattle.mark_parts.specs.mark_tables.Assemblies.{rec_of}
use Rattle.descriptor_texts.specs.descriptor_types.Rows.{row_in, first_from}
use Rattle.descriptor_texts.proofs.descriptor_types.rows.type_rows.Given as goal

abbrev pub invariant-loop-k : goal.invariant-loop-k
invariant-loop-k l = (q : List ℕ) → or_else (row_in l.rows q) (first_from (rec_of l.asm) q l.k (drop l.k l.types)) ≡ first_from (rec_of l.asm) q 0 l.types
