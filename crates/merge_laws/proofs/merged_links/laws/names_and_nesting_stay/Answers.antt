use Rattle.merge_laws.proofs.lemmas.merged_links.Nesting.{stay}
use Rattle.merge_laws.proofs.merged_links.laws.names_and_nesting_stay.Goals as goal

pub returns : goal.returns
returns c = stay
