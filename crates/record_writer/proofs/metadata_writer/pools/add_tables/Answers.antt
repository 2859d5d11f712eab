use Rattle.std.proofs.Common.{List, ℕ, ◌<◌, ◌≤◌, length, arith}
use Rattle.std.specs.List.{flat_map}
use Rattle.rules.specs.declared.file_layout.cell.Cell.{Cell}
use Rattle.record_writer.proofs.lemmas.metadata_writer.Gathering.{left_next, left_end, gathers_as}
use Rattle.record_writer.proofs.metadata_writer.pools.add_tables.Goals as goal

abbrev of : (Cell → List (List ℕ)) → List (List Cell) → List (List ℕ)
of = λ items rows. flat_map (λ row. flat_map items row) rows

pub loop-rows-preserved : goal.loop-rows-preserved
loop-rows-preserved c =
    let lt : c.loop-rows.rows-index < length c.args.tables.now = omega arith in
    left_next of c.args.tables.now c.loop-rows.rows-index c.rows-item.result c.args.pools.now c.loop-rows.pools c.add_rows.new.pools lt c.rows-item.is
    (gathers_as of _ _ _ _ c.as_slice.ensures c.in_ok-add_rows.ensures) c.loop-rows.invariant

pub returns : goal.returns
returns c = let le : length c.args.tables.now ≤ c.loop-rows.rows-index = omega arith in left_end of c.args.tables.now c.loop-rows.rows-index c.args.pools.now c.loop-rows.pools le c.loop-rows.invariant
