use Rattle.trim_laws.proofs.lemmas.merged_back.Enclosers.{stay}
use Rattle.trim_laws.proofs.merged_back.laws.enclosers_stay.Goals as goal

pub returns : goal.returns
returns c = stay
