use Rattle.merge_laws.proofs.lemmas.merged_standing.Members.{members_stand as stand}
use Rattle.merge_laws.proofs.merged_standing.laws.members_stand.Goals as goal

pub returns : goal.returns
returns c = stand
