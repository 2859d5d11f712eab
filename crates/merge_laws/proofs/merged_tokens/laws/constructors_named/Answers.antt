use Rattle.merge_laws.proofs.lemmas.merged_tokens.Constructors.{constructors_named as named}
use Rattle.merge_laws.proofs.merged_tokens.laws.constructors_named.Goals as goal

pub returns : goal.returns
returns c = named
