use Rattle.run_laws.proofs.lemmas.closed_laws.Joined.{all_closed}
use Rattle.run_laws.proofs.closed_laws.laws.marked_closed.Goals as goal

pub returns : goal.returns
returns c = all_closed
