use Rattle.base_laws.proofs.lemmas.change_laws.Cells.{cells_read, cells_written, zeros_move}
use Rattle.base_laws.proofs.change_laws.laws.cells_move.Goals as goal

pub returns-clause-read : goal.returns-clause-read
returns-clause-read c k after before a e cells x h g = cells_read k after before a e h cells x g

pub returns-clause-written : goal.returns-clause-written
returns-clause-written c k after before a e cells x v h g = cells_written k after before a e h cells x v g

pub returns-clause-zeros : goal.returns-clause-zeros
returns-clause-zeros c k after before a e h = zeros_move k after before a e h
