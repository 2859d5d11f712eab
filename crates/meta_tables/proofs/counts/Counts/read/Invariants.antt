-- The tables so far have their row counts.
use Rattle.std.proofs.Common.{◌≡◌, ◌+◌, ◌*◌, ◌≤◌, length}
use Rattle.il_base.specs.cli_format.Tables.{count_place}
use Rattle.meta_tables.specs.Held.{AreRows}
use Rattle.meta_tables.proofs.counts.Counts.read.Given as goal

abbrev pub invariant-loop-t : goal.invariant-loop-t
invariant-loop-t l = record {
  size : length l.rows ≡ 64;
  rows : AreRows l.stream l.rows l.t;
  place : l.end ≡ count_place l.stream l.t;
  within : l.end ≤ 24 + 4 * l.t;
}
