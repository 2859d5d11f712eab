use Rattle.merge_laws.proofs.lemmas.merged_links.Repeats.{repeats_stay as stay}
use Rattle.merge_laws.proofs.merged_links.laws.repeats_stay.Goals as goal

pub returns : goal.returns
returns c = stay
