use Rattle.std.proofs.Common.{◌≡◌, ◌-◌, ◌++◌}
use Rattle.rules.specs.link_rules.Members.{bases_from}
use Rattle.mark_parts.specs.mark_tables.Assemblies.{all_of}
use Rattle.mark_members.proofs.mark_kinds.lineage.with_bases.Given as goal

abbrev pub invariant-loop : goal.invariant-loop
invariant-loop l = l.types.items ++ bases_from (all_of l.marker) (l.count - l.counter) l.ty ≡ bases_from (all_of l.marker) l.count l.fn.start
