use Rattle.std.proofs.Common.{◌≡◌, Some, drop}
use Rattle.rules.specs.type_rules.Searches.{nested_along}
use Rattle.type_names.proofs.rows.TypeRows.nested_along.Given as goal

abbrev pub invariant-loop-name : goal.invariant-loop-name
invariant-loop-name l = nested_along l.self (drop l.name-index l.path) (Some l.at) ≡ nested_along l.self l.path (Some l.row)
