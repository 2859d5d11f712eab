-- The tables so far are known.
use Rattle.std.proofs.Common.{◌≡◌, None}
use Rattle.il_base.specs.cli_format.Demand.{first_fault, each_below}
use Rattle.il_base.specs.cli_format.Metadata.{known_demands}
use Rattle.meta_tables.proofs.layout.Layout.check_known.Given as goal

abbrev pub invariant-loop-t : goal.invariant-loop-t
invariant-loop-t l = first_fault (each_below (known_demands l.self l.base) l.t) ≡ None
