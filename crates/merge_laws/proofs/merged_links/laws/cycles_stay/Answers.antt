use Rattle.merge_laws.proofs.lemmas.merged_links.Cycles.{cycles_stay as stay}
use Rattle.merge_laws.proofs.merged_links.laws.cycles_stay.Goals as goal

pub returns : goal.returns
returns c = stay
