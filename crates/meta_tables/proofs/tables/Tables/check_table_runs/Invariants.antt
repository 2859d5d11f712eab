-- What was looked at so far is in order.
use Rattle.std.proofs.Common.{◌≡◌, None}
use Rattle.il_base.specs.cli_format.Demand.{first_fault, each_below}
use Rattle.il_base.specs.cli_format.Metadata.{row_run_demands}
use Rattle.meta_tables.proofs.tables.Tables.check_table_runs.Given as goal

abbrev pub invariant-loop-r : goal.invariant-loop-r
invariant-loop-r l = first_fault (each_below (row_run_demands l.self l.base l.table) l.r) ≡ None
