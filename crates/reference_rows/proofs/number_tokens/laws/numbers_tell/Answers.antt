use Rattle.reference_rows.proofs.lemmas.number_tokens.Telling.{all_tell}
use Rattle.reference_rows.proofs.number_tokens.laws.numbers_tell.Goals as goal

pub returns : goal.returns
returns c = λ o t n of by. all_tell c.types_tell.ensures o t n of by
