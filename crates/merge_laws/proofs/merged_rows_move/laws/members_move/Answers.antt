use Rattle.merge_laws.proofs.lemmas.merged_rows_move.Whole.{members}
use Rattle.merge_laws.proofs.merged_rows_move.laws.members_move.Goals as goal

pub returns : goal.returns
returns c = λ m k kept is flags at keeps. members m k kept is flags at keeps
