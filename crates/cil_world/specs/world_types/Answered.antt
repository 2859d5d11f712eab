-- What virtual calls find, kept for objects of types without arguments.
use Rattle.std.specs.Prelude.{◌≡◌, ℕ, List, Option, Some, slice_get}
use Rattle.il_base.specs.declared.world_model.expr.TypeExpr.{TypeExpr}
use Rattle.il_base.specs.declared.world_model.expr.TypeExpr as expr
use Rattle.il_base.specs.declared.world_model.record.AsmRec.{AsmRec}
use Rattle.rules.specs.type_rules.Subtypes.{above}
use Rattle.rules.specs.view_rules.Answers.{answers_query}
use Rattle.cil_world.specs.declared.world_types.answered.Answer.{Answer}
use Rattle.cil_world.specs.declared.world_types.answered.Led.{Led}

-- a type definition without arguments, by its place in the world
abbrev pub type_at : ℕ → TypeExpr
type_at n = expr.Def (record { 0 = n })

-- what a kept answer says is what is found
abbrev pub IsAnswer : List AsmRec → Answer → Type 0
IsAnswer recs a = a.found ≡ answers_query recs (type_at a.ty) a.owner a.method

abbrev pub AreAnswers : List AsmRec → List Answer → Type 0
AreAnswers recs answers = (n : ℕ) (a : Answer) → slice_get answers n ≡ Some a → IsAnswer recs a

-- what a kept type is said to lead to is what it leads to
abbrev pub IsLed : List AsmRec → Led → Type 0
IsLed recs l = l.types.items ≡ above recs (type_at l.ty)

abbrev pub AreLed : List AsmRec → List (Option Led) → Type 0
AreLed recs led = (n : ℕ) (l : Led) → slice_get led n ≡ Some (Some l) → IsLed recs l
