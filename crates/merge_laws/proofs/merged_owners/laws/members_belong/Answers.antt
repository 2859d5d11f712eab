use Rattle.merge_laws.proofs.lemmas.merged_owners.Belong.{members_belong as belong}
use Rattle.merge_laws.proofs.merged_owners.laws.members_belong.Goals as goal

pub returns : goal.returns
returns c = belong
