use Rattle.token_keys.proofs.lemmas.key_codes.Keyed.{all_tell}
use Rattle.token_keys.proofs.key_codes.laws.key_codes_tell.Goals as goal

pub returns : goal.returns
returns c = all_tell
