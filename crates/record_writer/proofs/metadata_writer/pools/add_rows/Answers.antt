use Rattle.std.proofs.Common.{List, ℕ, ◌<◌, ◌≤◌, length, arith}
use Rattle.std.specs.List.{flat_map}
use Rattle.rules.specs.declared.file_layout.cell.Cell.{Cell}
use Rattle.record_writer.proofs.lemmas.metadata_writer.Gathering.{left_next, left_end, gathers_as}
use Rattle.record_writer.proofs.metadata_writer.pools.add_rows.Goals as goal

abbrev of : (Cell → List (List ℕ)) → List Cell → List (List ℕ)
of = λ items row. flat_map items row

pub loop-row-preserved : goal.loop-row-preserved
loop-row-preserved c =
    let lt : c.loop-row.row-index < length c.args.rows.now = omega arith in
    left_next of c.args.rows.now c.loop-row.row-index c.row-item.result c.args.pools.now c.loop-row.pools c.add_row.new.pools lt c.row-item.is
    (gathers_as of _ _ _ _ c.as_slice.ensures c.in_ok-add_row.ensures) c.loop-row.invariant

pub returns : goal.returns
returns c = let le : length c.args.rows.now ≤ c.loop-row.row-index = omega arith in left_end of c.args.rows.now c.loop-row.row-index c.args.pools.now c.loop-row.pools le c.loop-row.invariant
