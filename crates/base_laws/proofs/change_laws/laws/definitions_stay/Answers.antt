use Rattle.base_laws.proofs.lemmas.change_laws.Defined.{kept_defined, subst_stays_defined}
use Rattle.base_laws.proofs.change_laws.laws.definitions_stay.Goals as goal

pub returns-clause-kept : goal.returns-clause-kept
returns-clause-kept c k e h = kept_defined k e h

pub returns-clause-substituted : goal.returns-clause-substituted
returns-clause-substituted c k targs margs ts ms e h = subst_stays_defined k targs margs ts ms e h
