use Rattle.std.proofs.Common.{List, ap, sym, ◌∙◌}
use Rattle.il_base.specs.declared.world_model.expr.TypeExpr.{TypeExpr}
use Rattle.il_base.specs.world_model.Exprs.{same_expr}
use Rattle.rules.specs.link_rules.Cycles.{add_new}
use Rattle.type_tables.proofs.lemmas.subtypes.Looking.{add_more}
use Rattle.type_tables.proofs.subtypes.rounds.add_all.Goals as goal

pub loop-ty-preserved : goal.loop-ty-preserved
loop-ty-preserved c =
    c.in_ok-add_new.ensures ∙ ap (λ (xs : List TypeExpr). add_new same_expr xs c.in-Some.ty) c.loop-ty.invariant
    ∙ sym (add_more same_expr c.args.found.now.items c.loop-ty.yielded c.in-Some.ty)
