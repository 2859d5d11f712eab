use Rattle.trim_laws.proofs.lemmas.member_parents.Whole.{parents_named as named}
use Rattle.trim_laws.proofs.member_parents.laws.parents_named.Goals as goal

pub returns : goal.returns
returns c = named c.met_written.ensures c.reference_rows_stand.ensures
