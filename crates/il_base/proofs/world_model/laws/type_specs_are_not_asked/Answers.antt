use Rattle.il_base.proofs.lemmas.world_model.SigTokens.{sig_same, expr_same}
use Rattle.il_base.proofs.world_model.laws.type_specs_are_not_asked.Goals as goal

pub returns-clause-names : goal.returns-clause-names
returns-clause-names c = sig_same

pub returns-clause-links : goal.returns-clause-links
returns-clause-links c = expr_same
