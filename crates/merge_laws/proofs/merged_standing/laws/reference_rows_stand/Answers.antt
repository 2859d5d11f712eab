use Rattle.merge_laws.proofs.lemmas.merged_standing.Whole.{reference_rows_stand as stand}
use Rattle.merge_laws.proofs.merged_standing.laws.reference_rows_stand.Goals as goal

pub returns : goal.returns
returns c = stand
