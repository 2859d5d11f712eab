use Rattle.run_laws.proofs.lemmas.marked_laws.Joined.{implied_kept}
use Rattle.run_laws.proofs.marked_laws.laws.marked_interfaces.Goals as goal

pub returns : goal.returns
returns c = implied_kept
