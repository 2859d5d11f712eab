use Rattle.std.proofs.Common.{◌≡◌, map, drop, nat_lt}
use Rattle.il_base.specs.world_model.Exprs.{deepest, levels}
use Rattle.il_base.proofs.world_model.expr.TypeExpr.+measuring.Given as goal

abbrev pub invariant-any_deeper-loop-one : goal.invariant-any_deeper-loop-one
invariant-any_deeper-loop-one l = nat_lt l.most (deepest (map levels (drop l.one-index l.types))) ≡ nat_lt l.most (deepest (map levels l.types))
