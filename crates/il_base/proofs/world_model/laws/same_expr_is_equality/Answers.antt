use Rattle.il_base.proofs.lemmas.world_model.SameExpr.{same_decides, all_decide}
use Rattle.il_base.proofs.world_model.laws.same_expr_is_equality.Goals as goal

pub returns-clause-types : goal.returns-clause-types
returns-clause-types c = same_decides

pub returns-clause-lists : goal.returns-clause-lists
returns-clause-lists c = all_decide
