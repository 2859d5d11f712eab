use Rattle.std.proofs.Common.{◌≡◌, nat_lt, find, drop}
use Rattle.il_base.specs.cli_format.Metadata.{most_rows}
use Rattle.record_writer.proofs.rows.first_long.Given as goal

abbrev pub invariant-loop-size : goal.invariant-loop-size
invariant-loop-size l = find (nat_lt most_rows) (drop l.size-index l.sizes) ≡ find (nat_lt most_rows) l.sizes
