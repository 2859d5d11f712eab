use Rattle.reference_rows.proofs.Telling.{all_tell}
use Rattle.reference_rows.proofs.laws.types_tell.Goals as goal

pub returns : goal.returns
returns c = λ o t e. all_tell o t e
