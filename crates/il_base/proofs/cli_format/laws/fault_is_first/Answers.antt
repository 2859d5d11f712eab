-- The law of the definitions.
use Rattle.il_base.proofs.lemmas.cli_format.Plain.{first_law}
use Rattle.il_base.proofs.cli_format.laws.fault_is_first.Goals as goal

pub returns : goal.returns
returns g c = λ ds e p. first_law ds e p
