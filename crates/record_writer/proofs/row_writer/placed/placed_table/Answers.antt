use Rattle.std.proofs.Common.{◌≤◌, length, arith}
use Rattle.record_writer.proofs.lemmas.row_writer.RowEnd.{no_more_rows}
use Rattle.record_writer.proofs.row_writer.placed.placed_table.Goals as goal

pub returns : goal.returns
returns g c =
    let le : length c.args.rows.now ≤ c.loop-row.row-index = omega arith in
    no_more_rows _ g.R.Placed.values_of _ _ _ _ _ le c.loop-row.invariant
