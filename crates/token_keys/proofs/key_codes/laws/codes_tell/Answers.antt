use Rattle.token_keys.proofs.lemmas.key_codes.Distinct.{all_tell}
use Rattle.token_keys.proofs.key_codes.laws.codes_tell.Goals as goal

pub returns : goal.returns
returns c = all_tell
