use Rattle.merge_plan.proofs.lemmas.kept_tables.Tokens.{token_is}
use Rattle.merge_plan.proofs.kept_tables.laws.tokens_tell.Goals as goal

pub returns : goal.returns
returns c = λ recs kept k are a token. token_is recs kept k are a token
