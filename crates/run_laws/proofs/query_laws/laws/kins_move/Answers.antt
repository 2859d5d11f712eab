use Rattle.run_laws.proofs.lemmas.query_laws.Wholes.{kin_moved}
use Rattle.run_laws.proofs.query_laws.laws.kins_move.Goals as goal

pub returns : goal.returns
returns c k kept p after before r keeps later earlier e h = kin_moved k kept p after before r keeps later earlier e h
