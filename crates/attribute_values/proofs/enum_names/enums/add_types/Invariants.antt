use Rattle.std.proofs.Common.{◌≡◌, ◌++◌, drop}
use Rattle.rules.specs.type_rules.Rows.{each_from}
use Rattle.rules.specs.mark_rules.Attributes.{enum_names}
use Rattle.mark_parts.specs.mark_tables.Assemblies.{place_of}
use Rattle.attribute_values.specs.enum_names.Enums.{all_recs, own_rec}
use Rattle.attribute_values.proofs.enum_names.enums.add_types.Given as goal

abbrev pub invariant-loop-k : goal.invariant-loop-k
invariant-loop-k l =
    l.enums ++ each_from (enum_names (all_recs l.source) l.source.from (place_of l.source.asm.now) (own_rec l.source)) l.k (drop l.k l.types)
    ≡ l.initial.enums ++ each_from (enum_names (all_recs l.source) l.source.from (place_of l.source.asm.now) (own_rec l.source)) 0 l.types
