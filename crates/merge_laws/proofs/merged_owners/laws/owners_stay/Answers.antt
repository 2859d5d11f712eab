use Rattle.merge_laws.proofs.lemmas.merged_owners.Owners.{owners_stay as stay}
use Rattle.merge_laws.proofs.merged_owners.laws.owners_stay.Goals as goal

pub returns : goal.returns
returns c = stay c.members_belong.ensures
