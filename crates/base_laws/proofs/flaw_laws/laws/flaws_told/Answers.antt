use Rattle.base_laws.proofs.lemmas.flaw_laws.Listing.{found}
use Rattle.base_laws.proofs.lemmas.flaw_laws.There.{rows_there}
use Rattle.base_laws.proofs.flaw_laws.laws.flaws_told.Goals as goal

pub returns-clause-first : goal.returns-clause-first
returns-clause-first c = λ w is there entry roots have tells. found w (c.homes_told.ensures.items w is) there entry roots have tells

pub returns-clause-there : goal.returns-clause-there
returns-clause-there c = rows_there
