-- What was looked at so far is there.
use Rattle.std.proofs.Common.{◌≡◌, None}
use Rattle.il_base.specs.cli_format.Demand.{first_fault, each_below}
use Rattle.il_base.specs.cli_format.Metadata.{cell_demands}
use Rattle.meta_tables.proofs.tables.Tables.check_row.Given as goal

abbrev pub invariant-loop-c : goal.invariant-loop-c
invariant-loop-c l = first_fault (each_below (cell_demands l.self l.base l.table l.row) l.c) ≡ None
