use Rattle.run_laws.proofs.lemmas.query_laws.Runs.{first_moved}
use Rattle.run_laws.proofs.query_laws.laws.firsts_move.Goals as goal

pub returns : goal.returns
returns c f kept before after same xs h = first_moved f kept before after same xs h
