use Rattle.merge_laws.proofs.lemmas.merged_rows_move.Core.{core_moves}
use Rattle.merge_laws.proofs.merged_rows_move.laws.core_moves.Goals as goal

pub returns : goal.returns
returns c = λ m k kept is flags undone. core_moves m is k kept flags undone
