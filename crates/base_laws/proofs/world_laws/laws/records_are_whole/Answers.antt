use Rattle.base_laws.proofs.lemmas.world_laws.Inputs.{slots_whole, slots_found, answers_owned, names_within}
use Rattle.base_laws.proofs.world_laws.laws.records_are_whole.Goals as goal

pub returns-clause-slots : goal.returns-clause-slots
returns-clause-slots c = slots_whole

pub returns-clause-found : goal.returns-clause-found
returns-clause-found c = slots_found

pub returns-clause-owned : goal.returns-clause-owned
returns-clause-owned c = answers_owned

pub returns-clause-names : goal.returns-clause-names
returns-clause-names c = names_within
