-- The total so far, with the widths that are left.
use Rattle.std.proofs.Common.{◌≡◌, ◌+◌, ◌*◌, ◌≤◌, drop}
use Rattle.il_base.specs.cli_format.Tables.{widths}
use Rattle.meta_tables.proofs.counts.Counts.widths.Given as goal

abbrev pub invariant-loop-column : goal.invariant-loop-column
invariant-loop-column l = record {
  sum : l.total + widths l.self (drop l.column-index l.columns) ≡ widths l.self l.columns;
  within : l.total ≤ 4 * l.column-index;
}
