use Rattle.merge_laws.proofs.lemmas.merged_places.Whole.{stay_apart}
use Rattle.merge_laws.proofs.merged_places.laws.rows_apart.Goals as goal

pub returns : goal.returns
returns c = λ m is. stay_apart m is
