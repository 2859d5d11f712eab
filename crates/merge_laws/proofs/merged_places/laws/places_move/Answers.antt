use Rattle.merge_laws.proofs.lemmas.merged_places.Whole.{places_move}
use Rattle.merge_laws.proofs.merged_places.laws.places_move.Goals as goal

pub returns : goal.returns
returns c = λ m undone k kept is flags. places_move m undone k kept is flags
