use Rattle.run_laws.proofs.lemmas.query_laws.Homes.{home_moved}
use Rattle.run_laws.proofs.lemmas.query_laws.Bases.{bases_moved}
use Rattle.run_laws.proofs.query_laws.laws.bases_move.Goals as goal

pub returns-clause-homes : goal.returns-clause-homes
returns-clause-homes c k kept p after before r keeps e h = home_moved k kept p after before r keeps e h

pub returns-clause-bases : goal.returns-clause-bases
returns-clause-bases c k kept p after before r keeps n e h = bases_moved k kept p after before r keeps n e h
