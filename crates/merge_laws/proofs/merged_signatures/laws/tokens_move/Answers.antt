use Rattle.merge_laws.proofs.lemmas.merged_signatures.Tokens.{token_moves}
use Rattle.merge_laws.proofs.merged_signatures.laws.tokens_move.Goals as goal

pub returns : goal.returns
returns c m is rows a rec there input token e f met = token_moves m is rows a rec there input token e met f
