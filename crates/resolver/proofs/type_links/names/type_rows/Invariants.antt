use Rattle.std.proofs.Common.{◌≡◌, drop}
use Rattle.std.specs.HashMap.{get}
use Rattle.std.specs.Option.{option_or}
use Rattle.rules.specs.link_rules.Types.{type_from}
use Rattle.resolver.specs.declared.type_links.names.TypeKey.{TypeKey}
use Rattle.resolver.specs.type_links.Names.{same_key}
use Rattle.resolver.proofs.type_links.names.type_rows.Given as goal

abbrev pub invariant-loop-row : goal.invariant-loop-row
invariant-loop-row l = record {
  counted : l.at ≡ l.row-index;
  rows : (q : TypeKey) → option_or (get same_key l.rows q) (type_from l.rec q.around q.name.namespace.now q.name.name.now l.row-index (drop l.row-index l.row-items)) ≡ type_from l.rec q.around q.name.namespace.now q.name.name.now 0 l.row-items;
}
