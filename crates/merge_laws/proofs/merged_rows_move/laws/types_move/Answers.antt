use Rattle.merge_laws.proofs.lemmas.merged_rows_move.Whole.{types}
use Rattle.merge_laws.proofs.merged_rows_move.laws.types_move.Goals as goal

pub returns : goal.returns
returns c = λ m k kept is flags undone reads at keeps. types m k kept is flags undone reads at keeps
