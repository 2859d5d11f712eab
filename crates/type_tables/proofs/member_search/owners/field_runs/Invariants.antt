use Rattle.std.proofs.Common.{◌≡◌, map, take}
use Rattle.type_tables.specs.member_search.Owners.{field_run}
use Rattle.type_tables.proofs.member_search.owners.field_runs.Given as goal

abbrev pub invariant-loop-row : goal.invariant-loop-row
invariant-loop-row l = l.runs.items ≡ map field_run (take l.row-index l.row-items)
