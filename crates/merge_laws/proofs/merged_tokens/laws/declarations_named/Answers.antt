use Rattle.merge_laws.proofs.lemmas.merged_tokens.Declarations.{declarations_named as named}
use Rattle.merge_laws.proofs.merged_tokens.laws.declarations_named.Goals as goal

pub returns : goal.returns
returns c = named
