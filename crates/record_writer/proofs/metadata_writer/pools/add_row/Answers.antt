use Rattle.std.proofs.Common.{List, ℕ, ◌<◌, ◌≤◌, length, arith}
use Rattle.rules.specs.declared.file_layout.cell.Cell.{Cell}
use Rattle.record_writer.proofs.lemmas.metadata_writer.Gathering.{left_next, left_end}
use Rattle.record_writer.proofs.metadata_writer.pools.add_row.Goals as goal

abbrev of : (Cell → List (List ℕ)) → Cell → List (List ℕ)
of = λ items cell. items cell

pub loop-cell-preserved : goal.loop-cell-preserved
loop-cell-preserved c =
    let lt : c.loop-cell.cell-index < length c.args.row.now = omega arith in
    left_next of c.args.row.now c.loop-cell.cell-index c.cell-item.result c.args.pools.now c.loop-cell.pools c.add_cell.new.pools lt c.cell-item.is
    c.in_ok-add_cell.ensures c.loop-cell.invariant

pub returns : goal.returns
returns c = let le : length c.args.row.now ≤ c.loop-cell.cell-index = omega arith in left_end of c.args.row.now c.loop-cell.cell-index c.args.pools.now c.loop-cell.pools le c.loop-cell.invariant
