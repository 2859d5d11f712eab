use Rattle.token_keys.proofs.lemmas.signature_rows.Telling.{signatures, rows_are}
use Rattle.token_keys.proofs.signature_rows.laws.signatures_tell.Goals as goal

pub returns-clause-signatures : goal.returns-clause-signatures
returns-clause-signatures c = signatures

pub returns-clause-rows : goal.returns-clause-rows
returns-clause-rows c = rows_are
