use Rattle.merge_laws.proofs.lemmas.merged_rows_move.Whole.{impls}
use Rattle.merge_laws.proofs.merged_rows_move.laws.impls_move.Goals as goal

pub returns : goal.returns
returns c = λ m k kept is flags reads at keeps. impls m k kept is flags reads at keeps
