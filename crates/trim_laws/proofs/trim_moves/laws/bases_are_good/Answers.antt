use Rattle.trim_laws.proofs.lemmas.trim_moves.Parts.{bases_good}
use Rattle.trim_laws.proofs.trim_moves.laws.bases_are_good.Goals as goal

pub returns : goal.returns
returns c = bases_good
