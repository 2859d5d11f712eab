use Rattle.trim_laws.proofs.lemmas.marked_mets.Merges.{members_kept}
use Rattle.trim_laws.proofs.marked_mets.laws.members_are_kept.Goals as goal

pub returns : goal.returns
returns c = members_kept
