use Rattle.base_laws.proofs.lemmas.change_laws.Exprs.{expr_back}
use Rattle.base_laws.proofs.lemmas.change_laws.Same.{use_back, field_use_back, path_back}
use Rattle.base_laws.proofs.change_laws.laws.moves_back.Goals as goal

pub returns-clause-types : goal.returns-clause-types
returns-clause-types c back rho u e = expr_back back rho u e

pub returns-clause-uses : goal.returns-clause-uses
returns-clause-uses c back rho u m = use_back back rho u m

pub returns-clause-field_uses : goal.returns-clause-field_uses
returns-clause-field_uses c back rho u f = field_use_back back rho u f

pub returns-clause-paths : goal.returns-clause-paths
returns-clause-paths c back rho u p = path_back back rho u p
