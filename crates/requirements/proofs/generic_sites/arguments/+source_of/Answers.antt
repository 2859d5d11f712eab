use Rattle.std.proofs.Common.{sym, ap, ◌∙◌}
use Rattle.il_base.specs.declared.world_model.expr.TypeExpr.{TypeExpr}
use Rattle.rules.specs.site_rules.Arguments.{Argument, argument}
use Rattle.rules.proofs.lemmas.site_rules.Layers.{argument_mod}
use Rattle.requirements.proofs.generic_sites.arguments.+source_of.Goals as goal

pub returns-in_ok-s-in-Mod : goal.returns-in_ok-s-in-Mod
returns-in_ok-s-in-Mod t c =
    let recs = c.args.recs.now in
    let owner = c.args.owner in
    λ place.
    c.in_ok-s-in-Mod.ensures place
    ∙ ap (λ (e : TypeExpr). (argument recs owner place e).known) c.get.ensures
    ∙ ap (λ (a : Argument). a.known) (sym (argument_mod recs owner place c.in-Mod.required c.in-Mod.by c.in-Mod.inner))
    ∙ ap (λ (e : TypeExpr). (argument recs owner place e).known) (sym c.in-Mod.is)
