use Rattle.std.proofs.Common.{arith, ◌≤◌, length}
use Rattle.record_writer.proofs.lemmas.metadata_writer.Columns.{no_more_cells}
use Rattle.record_writer.proofs.metadata_writer.rows.put_row.Goals as goal

pub returns-in-None : goal.returns-in-None
returns-in-None c = let le : length c.args.row.now ≤ c.loop-i.i = grind (arith, c.in-None.ensures.lookup) in no_more_cells _ _ _ _ _ le c.loop-i.invariant
