use Rattle.merge_laws.proofs.lemmas.merged_tokens.Stand.{tokens_stand}
use Rattle.merge_laws.proofs.merged_tokens.laws.type_tokens_stand.Goals as goal

pub returns : goal.returns
returns c = tokens_stand
