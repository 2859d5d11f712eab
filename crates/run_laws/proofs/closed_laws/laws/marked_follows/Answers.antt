use Rattle.run_laws.proofs.lemmas.closed_laws.Follows.{all_followed}
use Rattle.run_laws.proofs.closed_laws.laws.marked_follows.Goals as goal

pub returns : goal.returns
returns c = all_followed
