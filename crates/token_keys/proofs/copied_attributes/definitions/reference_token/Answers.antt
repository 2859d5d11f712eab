use Rattle.std.proofs.Common.{arith}
use Rattle.token_keys.proofs.lemmas.copied_attributes.Tokens.{names_row}
use Rattle.token_keys.proofs.copied_attributes.definitions.reference_token.Goals as goal

pub returns : goal.returns
returns c = names_row c.args.row c.in_ok-token.token (omega arith) c.in_ok-token.ensures
