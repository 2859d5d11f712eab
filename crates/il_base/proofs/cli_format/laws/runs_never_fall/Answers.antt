-- The law of the definitions.
use Rattle.il_base.proofs.lemmas.cli_format.Plain.{runs_law}
use Rattle.il_base.proofs.cli_format.laws.runs_never_fall.Goals as goal

pub returns : goal.returns
returns c = runs_law
