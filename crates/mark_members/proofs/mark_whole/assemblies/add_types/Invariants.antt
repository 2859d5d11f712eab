use Rattle.std.proofs.Common.{◌≡◌, ◌++◌, drop}
use Rattle.rules.specs.type_rules.Rows.{each_from}
use Rattle.mark_parts.specs.mark_tables.Assemblies.{all_of}
use Rattle.mark_members.specs.mark_whole.Assemblies.{whole_type}
use Rattle.mark_members.proofs.mark_whole.assemblies.add_types.Given as goal

abbrev pub invariant-loop-k : goal.invariant-loop-k
invariant-loop-k l =
    l.facts ++ each_from (whole_type (all_of l.marker) l.asm) l.k (drop l.k l.types) ≡ l.initial.facts ++ each_from (whole_type (all_of l.marker) l.asm) 0 l.types
