use Rattle.merge_laws.proofs.lemmas.merged_rows_move.Whole.{marks}
use Rattle.merge_laws.proofs.merged_rows_move.laws.marks_move.Goals as goal

pub returns : goal.returns
returns c = λ m k kept is flags. marks m k kept is flags
