use Rattle.run_laws.proofs.lemmas.query_laws.Starts.{starts_moved, starts_kept}
use Rattle.run_laws.proofs.query_laws.laws.starts_move.Goals as goal

pub returns-clause-moves : goal.returns-clause-moves
returns-clause-moves c k kept p after before r keeps t h = starts_moved k kept p after before r keeps t h

pub returns-clause-keeps : goal.returns-clause-keeps
returns-clause-keeps c k kept p after before r keeps t m h is = starts_kept k kept p after before r keeps t m h is
