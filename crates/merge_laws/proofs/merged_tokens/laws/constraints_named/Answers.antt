use Rattle.merge_laws.proofs.lemmas.merged_tokens.Constraints.{constraints_named as named}
use Rattle.merge_laws.proofs.merged_tokens.laws.constraints_named.Goals as goal

pub returns : goal.returns
returns c = named c.type_tokens_stand.ensures c.owners_stay.ensures
