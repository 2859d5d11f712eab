use Rattle.base_laws.proofs.lemmas.world_laws.Homes.{all_homes, all_items}
use Rattle.base_laws.proofs.lemmas.world_laws.Listed.{all_listed}
use Rattle.base_laws.proofs.world_laws.laws.homes_told.Goals as goal

pub returns-clause-kinds : goal.returns-clause-kinds
returns-clause-kinds c = all_homes

pub returns-clause-items : goal.returns-clause-items
returns-clause-items c = all_items

pub returns-clause-listed : goal.returns-clause-listed
returns-clause-listed c = all_listed
