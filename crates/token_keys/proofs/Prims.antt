-- The key of a primitive.
use Rattle.std.proofs.Common.{◌≡◌, ℕ, List, Option, Some, None, sym, ap, ◌∙◌}
use Rattle.std.specs.Option.{option_map}
use Rattle.il_base.specs.declared.ids.TypeId.{TypeId}
use Rattle.il_base.specs.declared.world_model.expr.TypeExpr.{out-TypeExpr, out-roll-TypeExpr}
use Rattle.il_base.specs.declared.world_model.expr.TypeExpr.TheOpen.{TypeExpr-F}
use Rattle.il_base.specs.declared.world_model.expr.TypeExpr.TheVariants as expr
use Rattle.il_base.specs.declared.world_model.record.AsmRec.{AsmRec}
use Rattle.il_base.specs.world_model.Worlds.{prim_type}
use Rattle.rules.specs.merge_rules.Keys.{named, expr_key_in, expr_key}

out_prim : (n : ℕ) → out-TypeExpr (expr.Prim n) ≡ TypeExpr-F.Prim n
out_prim n = ap out-TypeExpr (sym (expr.rolls-Prim n)) ∙ out-roll-TypeExpr (TypeExpr-F.Prim n)

by_type : (recs : List AsmRec) (n : ℕ) (o : Option TypeId) → prim_type recs n ≡ o → option_map named o ≡ expr_key recs (expr.Prim n)
unfolding expr_key
by_type recs n o e = sym (ap (expr_key_in recs (expr.Prim n)) (out_prim n) ∙ ap (option_map named) e)

pub prim_none : (recs : List AsmRec) (n : ℕ) → prim_type recs n ≡ None → None ≡ expr_key recs (expr.Prim n)
prim_none recs n e = by_type recs n None e

pub prim_some : (recs : List AsmRec) (n : ℕ) (t : TypeId) → prim_type recs n ≡ Some t → Some (named t) ≡ expr_key recs (expr.Prim n)
prim_some recs n t e = by_type recs n (Some t) e
