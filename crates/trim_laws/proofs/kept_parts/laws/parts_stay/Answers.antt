use Rattle.trim_laws.proofs.lemmas.kept_parts.Whole.{parts_stay as stay}
use Rattle.trim_laws.proofs.kept_parts.laws.parts_stay.Goals as goal

pub returns : goal.returns
returns c = stay c.owners_stay.ensures
