use Rattle.trim_laws.proofs.lemmas.marked_mets.Merges.{of_types_kept}
use Rattle.trim_laws.proofs.marked_mets.laws.mets_of_types_are_kept.Goals as goal

pub returns : goal.returns
returns c = of_types_kept
