use Rattle.restrict.proofs.lemmas.assembly_tokens.Telling.{all_tell}
use Rattle.restrict.proofs.assembly_tokens.laws.assembly_tokens_tell.Goals as goal

pub returns : goal.returns
returns c = λ o m t are moved texts. all_tell c.keys_tell.ensures o m are t moved texts
