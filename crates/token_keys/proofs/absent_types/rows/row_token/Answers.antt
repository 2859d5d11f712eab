use Rattle.std.proofs.Common.{arith}
use Rattle.token_keys.proofs.lemmas.absent_types.Tokens.{names_row}
use Rattle.token_keys.proofs.absent_types.rows.row_token.Goals as goal

pub returns : goal.returns
returns c = names_row c.args.table c.args.row c.in_ok-token.token (omega arith) c.in_ok-token.ensures
