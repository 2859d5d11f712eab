use Rattle.merge_laws.proofs.lemmas.merged_rows_move.Whole.{interfaces}
use Rattle.merge_laws.proofs.merged_rows_move.laws.interfaces_move.Goals as goal

pub returns : goal.returns
returns c = λ m k kept is flags reads good at keeps. interfaces m k kept is flags reads good at keeps
