use Rattle.base_laws.proofs.lemmas.type_laws.Uses.{all_told}
use Rattle.base_laws.proofs.type_laws.laws.uses_told.Goals as goal

pub returns : goal.returns
returns c = all_told
