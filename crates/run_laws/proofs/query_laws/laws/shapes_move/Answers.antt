use Rattle.run_laws.proofs.lemmas.query_laws.Shapes.{shape_moved}
use Rattle.run_laws.proofs.lemmas.query_laws.Covered.{shape_kept}
use Rattle.run_laws.proofs.query_laws.laws.shapes_move.Goals as goal

pub returns-clause-moves : goal.returns-clause-moves
returns-clause-moves c k kept p after before r keeps e h = shape_moved k kept p after before r keeps e h

pub returns-clause-keeps : goal.returns-clause-keeps
returns-clause-keeps c k kept p after before r keeps e h = shape_kept k kept p after before r keeps e h
