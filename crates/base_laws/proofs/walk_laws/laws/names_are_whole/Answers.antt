use Rattle.base_laws.proofs.lemmas.walk_laws.Enclosing.{all_whole, spaces_whole}
use Rattle.base_laws.proofs.walk_laws.laws.names_are_whole.Goals as goal

pub returns-clause-names : goal.returns-clause-names
returns-clause-names c = all_whole

pub returns-clause-spaces : goal.returns-clause-spaces
returns-clause-spaces c = spaces_whole
