use Rattle.trim_laws.proofs.lemmas.merged_fields.Whole.{fields_move as move}
use Rattle.trim_laws.proofs.merged_fields.laws.fields_move.Goals as goal

pub returns : goal.returns
returns c = move c.owners_stay.ensures
