-- Each table so far has fewer rows.
use Rattle.std.proofs.Common.{◌≡◌, drop}
use Rattle.il_base.specs.cli_format.Tables.{fewer}
use Rattle.meta_tables.proofs.counts.Counts.are_fewer.Given as goal

abbrev pub invariant-loop-t : goal.invariant-loop-t
invariant-loop-t l = fewer l.self l.limit (drop l.t-index l.tables) ≡ fewer l.self l.limit l.tables
