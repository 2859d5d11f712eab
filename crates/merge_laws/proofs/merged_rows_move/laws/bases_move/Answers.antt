use Rattle.merge_laws.proofs.lemmas.merged_rows_move.Whole.{bases}
use Rattle.merge_laws.proofs.merged_rows_move.laws.bases_move.Goals as goal

pub returns : goal.returns
returns c = λ m k kept is flags reads good at keeps. bases m k kept is flags reads good at keeps
