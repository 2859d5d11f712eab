use Rattle.trim_laws.proofs.lemmas.trim_moves.Parts.{interfaces_good}
use Rattle.trim_laws.proofs.trim_moves.laws.interfaces_are_good.Goals as goal

pub returns : goal.returns
returns c = λ m entry roots holds flagged. interfaces_good m entry roots holds flagged
