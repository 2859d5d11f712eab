-- The law of the definitions.
use Rattle.il_base.proofs.lemmas.cli_format.Plain.{no_fault_law}
use Rattle.il_base.proofs.cli_format.laws.no_fault.Goals as goal

pub returns : goal.returns
returns g c = λ ds. no_fault_law ds
