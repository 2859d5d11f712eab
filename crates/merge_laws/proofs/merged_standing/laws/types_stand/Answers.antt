use Rattle.merge_laws.proofs.lemmas.merged_standing.Whole.{types_stand as stand}
use Rattle.merge_laws.proofs.merged_standing.laws.types_stand.Goals as goal

pub returns : goal.returns
returns c = stand
