use Rattle.base_laws.proofs.lemmas.change_laws.Same.{same_exprs_moved, same_places_moved, same_globals_moved}
use Rattle.base_laws.proofs.change_laws.laws.same_stays_same.Goals as goal

pub returns-clause-types : goal.returns-clause-types
returns-clause-types c back rho u a b = same_exprs_moved back rho u a b

pub returns-clause-places : goal.returns-clause-places
returns-clause-places c back rho u p o = same_places_moved back rho u p o

pub returns-clause-globals : goal.returns-clause-globals
returns-clause-globals c back rho u f owner g = same_globals_moved back rho u f owner g

pub returns-clause-inits : goal.returns-clause-inits
returns-clause-inits c back rho u e s = same_exprs_moved back rho u s.typ e
