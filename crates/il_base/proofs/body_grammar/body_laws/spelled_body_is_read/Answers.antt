use Rattle.il_base.proofs.lemmas.body_grammar.WrittenBodies.{spelled_again}
use Rattle.il_base.proofs.body_grammar.body_laws.spelled_body_is_read.Goals as goal

pub returns : goal.returns
returns c = spelled_again
