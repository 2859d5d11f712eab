use Rattle.merge_laws.proofs.lemmas.merged_tokens.Interfaces.{interfaces_named as named}
use Rattle.merge_laws.proofs.merged_tokens.laws.interfaces_named.Goals as goal

pub returns : goal.returns
returns c = named c.type_tokens_stand.ensures
