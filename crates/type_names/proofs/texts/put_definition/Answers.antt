use Rattle.type_names.proofs.HomeLemmas.{unnamed}
use Rattle.type_names.proofs.texts.put_definition.Goals as goal

pub returns-in-None : goal.returns-in-None
returns-in-None c = unnamed _ _ _ c.in-None.ensures
