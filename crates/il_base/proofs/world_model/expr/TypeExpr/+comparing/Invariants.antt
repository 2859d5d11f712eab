use Rattle.std.proofs.Common.{◌≡◌, drop}
use Rattle.il_base.specs.world_model.Exprs.{same_exprs}
use Rattle.il_base.proofs.world_model.expr.TypeExpr.+comparing.Given as goal

abbrev pub invariant-are_same-loop-i : goal.invariant-are_same-loop-i
invariant-are_same-loop-i l = same_exprs (drop l.i l.types) (drop l.i l.others) ≡ same_exprs l.types l.others
