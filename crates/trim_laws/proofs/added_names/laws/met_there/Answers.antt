use Rattle.trim_laws.proofs.lemmas.added_names.Readings.{met_there as there}
use Rattle.trim_laws.proofs.added_names.laws.met_there.Goals as goal

pub returns : goal.returns
returns c = there
