use Rattle.base_laws.proofs.lemmas.walk_laws.Bases.{all_whole, all_once}
use Rattle.base_laws.proofs.walk_laws.laws.bases_are_whole.Goals as goal

pub returns-clause-whole : goal.returns-clause-whole
returns-clause-whole c = all_whole

pub returns-clause-once : goal.returns-clause-once
returns-clause-once c = all_once
