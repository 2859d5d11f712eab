use Rattle.base_laws.proofs.lemmas.world_laws.Inputs.{runs_kept, nesting_kept}
use Rattle.base_laws.proofs.world_laws.laws.records_keep.Goals as goal

pub returns-clause-runs : goal.returns-clause-runs
returns-clause-runs c = runs_kept

pub returns-clause-nesting : goal.returns-clause-nesting
returns-clause-nesting c = nesting_kept
