use Rattle.base_laws.proofs.lemmas.walk_laws.Implied.{all_whole}
use Rattle.base_laws.proofs.walk_laws.laws.implied_are_whole.Goals as goal

pub returns : goal.returns
returns c = all_whole
