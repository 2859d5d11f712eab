use Rattle.trim_laws.proofs.lemmas.trim_runs.Runs.{trims_run as run}
use Rattle.trim_laws.proofs.trim_runs.laws.trims_run.Goals as goal

pub returns : goal.returns
returns c = run c.left_is_record.ensures
