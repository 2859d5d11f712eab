use Rattle.std.proofs.Common.{◌≡◌, ◌++◌, map, drop}
use Rattle.il_base.specs.declared.world_model.assemblies.AssemblyRefRow.{AssemblyRefRow}
use Rattle.rules.specs.link_rules.Types.{assembly_named}
use Rattle.resolver.proofs.type_links.assemblies.assemblies_of.Given as goal

abbrev pub invariant-loop-row : goal.invariant-loop-row
invariant-loop-row l =
    l.named.items ++ map (λ (row : AssemblyRefRow). assembly_named l.all row.name) (drop l.row-index l.row-items) ≡ map (λ (row : AssemblyRefRow). assembly_named l.all row.name) l.row-items
