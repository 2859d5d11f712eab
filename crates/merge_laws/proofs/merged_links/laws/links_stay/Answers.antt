use Rattle.merge_laws.proofs.lemmas.merged_links.Joined.{links_stay as stay}
use Rattle.merge_laws.proofs.merged_links.laws.links_stay.Goals as goal

pub returns : goal.returns
returns c = stay
