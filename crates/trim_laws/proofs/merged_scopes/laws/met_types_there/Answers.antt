use Rattle.trim_laws.proofs.lemmas.merged_scopes.Whole.{met_types_there as there}
use Rattle.trim_laws.proofs.merged_scopes.laws.met_types_there.Goals as goal

pub returns : goal.returns
returns c = there
