use Rattle.std.proofs.Common.{◌≡◌, drop}
use Rattle.std.specs.HashMap.{get}
use Rattle.std.specs.Option.{option_or}
use Rattle.resolver.specs.declared.type_links.names.TypeName.{TypeName}
use Rattle.resolver.specs.type_links.Names.{same_type_name}
use Rattle.resolver.proofs.lemmas.type_links.Forwarded.{first_forwarder}
use Rattle.resolver.proofs.type_links.forwarders.forwarders.Given as goal

abbrev pub invariant-loop-row : goal.invariant-loop-row
invariant-loop-row l = (q : TypeName) → option_or (get same_type_name l.rows q) (first_forwarder q (drop l.row-index l.row-items)) ≡ first_forwarder q l.row-items
