-- What was looked at so far is in order.
use Rattle.std.proofs.Common.{◌≡◌, None}
use Rattle.il_base.specs.cli_format.Demand.{first_fault, each_below}
use Rattle.il_base.specs.cli_format.Metadata.{table_run_demands}
use Rattle.meta_tables.proofs.tables.Tables.check_runs.Given as goal

abbrev pub invariant-loop-t : goal.invariant-loop-t
invariant-loop-t l = first_fault (each_below (table_run_demands l.self l.base) l.t) ≡ None
