use Rattle.reference_rows.proofs.lemmas.key_tokens.Telling.{all_tell}
use Rattle.reference_rows.proofs.key_tokens.laws.keys_tell.Goals as goal

pub returns : goal.returns
returns c = λ o k are. all_tell c.types_tell.ensures o k are
