use Rattle.merge_laws.proofs.lemmas.merged_rows_move.Whole.{names}
use Rattle.merge_laws.proofs.merged_rows_move.laws.names_move.Goals as goal

pub returns : goal.returns
returns c = λ m k kept is flags stays at keeps shown. names m k kept is flags stays at keeps shown
