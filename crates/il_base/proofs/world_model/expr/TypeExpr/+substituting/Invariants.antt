use Rattle.std.proofs.Common.{◌≡◌, map, take}
use Rattle.il_base.specs.world_model.Exprs.{subst}
use Rattle.il_base.proofs.world_model.expr.TypeExpr.+substituting.Given as goal

abbrev pub invariant-subst_all-loop-one : goal.invariant-subst_all-loop-one
invariant-subst_all-loop-one l = l.made ≡ map (subst l.targs l.margs) (take l.one-index l.types)
