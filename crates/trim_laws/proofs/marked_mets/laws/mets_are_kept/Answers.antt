use Rattle.trim_laws.proofs.lemmas.marked_mets.Merges.{mets_kept}
use Rattle.trim_laws.proofs.marked_mets.laws.mets_are_kept.Goals as goal

pub returns : goal.returns
returns c = mets_kept
