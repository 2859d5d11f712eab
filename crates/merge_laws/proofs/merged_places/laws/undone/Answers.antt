use Rattle.merge_laws.proofs.lemmas.merged_places.Whole.{undone_of}
use Rattle.merge_laws.proofs.merged_places.laws.undone.Goals as goal

pub returns : goal.returns
returns c = λ m. undone_of m
