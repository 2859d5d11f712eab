use Rattle.trim_laws.proofs.lemmas.marked_loads.EntryType.{entry_type}
use Rattle.trim_laws.proofs.marked_loads.laws.entry_type_is_left.Goals as goal

pub returns : goal.returns
returns c = entry_type c.owners_stay.ensures
