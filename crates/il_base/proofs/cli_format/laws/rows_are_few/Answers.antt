-- The law of the definitions.
use Rattle.il_base.proofs.lemmas.cli_format.Plain.{few_law}
use Rattle.il_base.proofs.cli_format.laws.rows_are_few.Goals as goal

pub returns : goal.returns
returns c = few_law
