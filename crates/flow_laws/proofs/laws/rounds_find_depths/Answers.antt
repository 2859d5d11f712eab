use Rattle.flow_laws.proofs.lemmas.Depthing.{depths_are_found, no_depths_are_found}
use Rattle.flow_laws.proofs.laws.rounds_find_depths.Goals as goal

pub returns-clause-found : goal.returns-clause-found
returns-clause-found c = depths_are_found

pub returns-clause-none : goal.returns-clause-none
returns-clause-none c = no_depths_are_found
