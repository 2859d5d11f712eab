use Rattle.run_laws.proofs.lemmas.subtype_laws.Below.{all_below_moved}
use Rattle.run_laws.proofs.subtype_laws.laws.below_moves.Goals as goal

pub returns : goal.returns
returns c = all_below_moved
