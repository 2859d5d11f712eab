use Rattle.flow_laws.proofs.lemmas.Sourcing.{sources_are_found}
use Rattle.flow_laws.proofs.laws.rounds_find_sources.Goals as goal

pub returns : goal.returns
returns c = sources_are_found
