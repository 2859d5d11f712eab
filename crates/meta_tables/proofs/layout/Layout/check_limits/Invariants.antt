-- The tables so far have as many rows as they may have.
use Rattle.std.proofs.Common.{◌≡◌, None}
use Rattle.il_base.specs.cli_format.Demand.{first_fault, each_below}
use Rattle.il_base.specs.cli_format.Metadata.{limit_demands}
use Rattle.meta_tables.proofs.layout.Layout.check_limits.Given as goal

abbrev pub invariant-loop-t : goal.invariant-loop-t
invariant-loop-t l = first_fault (each_below (limit_demands l.self) l.t) ≡ None
