use Rattle.run_laws.proofs.lemmas.query_laws.Cells.{cells_moved}
use Rattle.run_laws.proofs.query_laws.laws.cells_move.Goals as goal

pub returns : goal.returns
returns c k kept p after before r keeps later earlier e h = cells_moved k kept p after before r keeps later earlier e h
