use Rattle.il_base.proofs.lemmas.body_grammar.ReadBodies.{read_spelled}
use Rattle.il_base.proofs.body_grammar.body_laws.read_body_is_spelled.Goals as goal

pub returns : goal.returns
returns c = read_spelled
