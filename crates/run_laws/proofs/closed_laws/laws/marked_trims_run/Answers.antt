use Rattle.run_laws.proofs.lemmas.closed_laws.Trims.{trims_run}
use Rattle.run_laws.proofs.closed_laws.laws.marked_trims_run.Goals as goal

pub returns : goal.returns
returns c = trims_run
