use Rattle.base_laws.proofs.lemmas.walk_laws.Overrides.{all_whole, all_found, slot_again}
use Rattle.base_laws.proofs.walk_laws.laws.slots_are_whole.Goals as goal

pub returns-clause-whole : goal.returns-clause-whole
returns-clause-whole c = all_whole

pub returns-clause-found : goal.returns-clause-found
returns-clause-found c = all_found

pub returns-clause-again : goal.returns-clause-again
returns-clause-again c = slot_again
