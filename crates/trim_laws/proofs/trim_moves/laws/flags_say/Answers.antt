use Rattle.trim_laws.proofs.lemmas.trim_moves.Flags.{flags_say as say}
use Rattle.trim_laws.proofs.trim_moves.laws.flags_say.Goals as goal

pub returns : goal.returns
returns c = λ m entry roots holds flagged. say m entry roots holds flagged
