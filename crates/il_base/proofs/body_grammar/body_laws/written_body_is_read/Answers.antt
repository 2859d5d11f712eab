use Rattle.il_base.proofs.lemmas.body_grammar.WrittenBodies.{written_again}
use Rattle.il_base.proofs.body_grammar.body_laws.written_body_is_read.Goals as goal

pub returns : goal.returns
returns c = written_again
