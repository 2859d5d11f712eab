use Rattle.trim_laws.proofs.lemmas.flagged_marks.Follow.{follow}
use Rattle.trim_laws.proofs.flagged_marks.laws.flags_follow.Goals as goal

pub returns : goal.returns
returns c = follow
