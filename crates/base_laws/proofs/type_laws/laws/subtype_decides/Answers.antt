use Rattle.base_laws.proofs.lemmas.type_laws.Subtypes.{decides}
use Rattle.base_laws.proofs.type_laws.laws.subtype_decides.Goals as goal

pub returns : goal.returns
returns c = decides
