-- The law of the definitions.
use Rattle.il_base.proofs.lemmas.cli_format.Plain.{cells_law}
use Rattle.il_base.proofs.cli_format.laws.cells_name_items.Goals as goal

pub returns : goal.returns
returns c = cells_law
