use Rattle.trim_laws.proofs.lemmas.trim_moves.Names.{names_stay as stay}
use Rattle.trim_laws.proofs.trim_moves.laws.names_stay.Goals as goal

pub returns : goal.returns
returns c = λ m entry roots holds flagged names is links. stay m entry roots holds flagged names is links
