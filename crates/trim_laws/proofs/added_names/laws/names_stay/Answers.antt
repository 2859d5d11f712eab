use Rattle.trim_laws.proofs.lemmas.added_names.Together.{core_stays}
use Rattle.merge_laws.proofs.lemmas.merged_references.Lists.{contained}
use Rattle.trim_laws.proofs.added_names.laws.names_stay.Goals as goal

pub returns : goal.returns
returns c m is x t at h g home last = core_stays m is x t at (contained _ x h) (contained _ t g) home last
