use Rattle.base_laws.proofs.lemmas.change_laws.Subst.{subst_moves, subst_stays}
use Rattle.base_laws.proofs.change_laws.laws.substitution_moves.Goals as goal

pub returns-clause-moves : goal.returns-clause-moves
returns-clause-moves c rho targs margs e = subst_moves rho targs margs e

pub returns-clause-keeps : goal.returns-clause-keeps
returns-clause-keeps c k targs margs ts ms e h = (subst_stays k targs margs ts ms e).kept h
