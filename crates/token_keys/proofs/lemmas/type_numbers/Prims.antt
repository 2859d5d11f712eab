-- The number of a primitive.
use Rattle.std.proofs.Common.{◌≡◌, ℕ, suc, List, Some, None, sym, ap, ◌∙◌, arith}
use Rattle.il_base.specs.declared.ids.TypeId.{TypeId}
use Rattle.il_base.specs.declared.world_model.known.Known.TheVariants.{Good}
use Rattle.il_base.specs.declared.world_model.expr.TypeExpr.{out-TypeExpr, out-roll-TypeExpr}
use Rattle.il_base.specs.declared.world_model.expr.TypeExpr.TheOpen.{TypeExpr-F}
use Rattle.il_base.specs.declared.world_model.expr.TypeExpr.TheVariants as expr
use Rattle.il_base.specs.declared.world_model.record.AsmRec.{AsmRec}
use Rattle.il_base.specs.world_model.Worlds.{prim_type}
use Rattle.rules.specs.merge_rules.Keys.{number_of}

out_prim : (n : ℕ) → out-TypeExpr (expr.Prim n) ≡ TypeExpr-F.Prim n
out_prim n = ap out-TypeExpr (sym (expr.rolls-Prim n)) ∙ out-roll-TypeExpr (TypeExpr-F.Prim n)

pub prim_none : (recs : List AsmRec) (n : ℕ) → prim_type recs n ≡ None → 0 ≡ number_of recs (Good (expr.Prim n))
prim_none recs n e = grind (arith, out_prim, e)

pub prim_some : (recs : List AsmRec) (n : ℕ) (t : TypeId) → prim_type recs n ≡ Some t → suc t.0 ≡ number_of recs (Good (expr.Prim n))
prim_some recs n t e = grind (arith, out_prim, e)
