-- A kept answer, for a type, an owner and a method that are its own.
use Rattle.std.proofs.Common.{◌≡◌, ℕ, true, List, ◌∙◌}
use Rattle.il_base.specs.declared.world_model.expr.TypeExpr.{TypeExpr}
use Rattle.il_base.specs.declared.world_model.record.AsmRec.{AsmRec}
use Rattle.il_base.specs.world_model.Exprs.{same_expr}
use Rattle.il_base.proofs.lemmas.world_model.SameExpr.{same_only}
use Rattle.rules.specs.view_rules.Answers.{answers_query}
use Rattle.cil_world.specs.declared.world_types.answered.Answer.{Answer}
use Rattle.cil_world.specs.world_types.Answered.{IsAnswer, type_at}

pub answered_by : (recs : List AsmRec) (a : Answer) (ty : ℕ) (owner : TypeExpr) (method : ℕ) → IsAnswer recs a → a.ty ≡ ty → same_expr a.owner owner ≡ true → a.method ≡ method
    → a.found ≡ answers_query recs (type_at ty) owner method
answered_by recs a ty owner method is same_ty same_owner same_method =
    is ∙ (λ i. answers_query recs (type_at (same_ty i)) (same_only a.owner owner same_owner i) (same_method i))
