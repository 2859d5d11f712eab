use Rattle.trim_laws.proofs.lemmas.spelled_trims.Whole.{trim_spelled}
use Rattle.trim_laws.proofs.spelled_trims.laws.trim_is_spelled.Goals as goal

pub returns : goal.returns
returns c = trim_spelled c.signatures_are_of_types.ensures c.files_are_spelled.ensures c.core_is_spelled.ensures c.left_is_spelled.ensures
