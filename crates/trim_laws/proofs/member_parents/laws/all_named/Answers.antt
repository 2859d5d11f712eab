use Rattle.trim_laws.proofs.lemmas.member_parents.Whole.{all_named as named}
use Rattle.trim_laws.proofs.member_parents.laws.all_named.Goals as goal

pub returns : goal.returns
returns c = named c.parents_named.ensures c.names_follow.ensures
