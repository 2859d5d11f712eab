use Rattle.merge_laws.proofs.lemmas.merged_rows_move.Whole.{signatures}
use Rattle.merge_laws.proofs.merged_rows_move.laws.signatures_move.Goals as goal

pub returns : goal.returns
returns c = λ m k kept is flags reads at keeps. signatures m k kept is flags reads at keeps
