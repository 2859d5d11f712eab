use Rattle.merge_laws.proofs.lemmas.merged_tokens.Methods.{methods_named as named}
use Rattle.merge_laws.proofs.merged_tokens.laws.methods_named.Goals as goal

pub returns : goal.returns
returns c = named
