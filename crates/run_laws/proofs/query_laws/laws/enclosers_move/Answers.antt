use Rattle.run_laws.proofs.lemmas.query_laws.Enclosers.{encloser_moved, encloser_kept}
use Rattle.run_laws.proofs.query_laws.laws.enclosers_move.Goals as goal

pub returns-clause-moves : goal.returns-clause-moves
returns-clause-moves c k kept p after before r keeps t h = encloser_moved k kept p after before r keeps t h

pub returns-clause-keeps : goal.returns-clause-keeps
returns-clause-keeps c k kept p after before r keeps t u h is = encloser_kept k kept p after before r keeps t u h is
