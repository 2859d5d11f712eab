-- The law of the definitions.
use Rattle.il_base.proofs.lemmas.cli_format.Plain.{sorted_law}
use Rattle.il_base.proofs.cli_format.laws.tables_are_sorted.Goals as goal

pub returns : goal.returns
returns c = sorted_law
