use Rattle.base_laws.proofs.lemmas.link_laws.Tell.{all_tell}
use Rattle.base_laws.proofs.link_laws.laws.links_tell.Goals as goal

pub returns : goal.returns
returns c = all_tell
