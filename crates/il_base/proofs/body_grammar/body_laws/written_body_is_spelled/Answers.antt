use Rattle.il_base.proofs.lemmas.body_grammar.WrittenBodies.{written_spelled}
use Rattle.il_base.proofs.body_grammar.body_laws.written_body_is_spelled.Goals as goal

pub returns : goal.returns
returns c = written_spelled
