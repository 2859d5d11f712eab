use Rattle.std.proofs.Common.{◌≡◌, ap, sym, subst, ◌∙◌}
use Rattle.std.specs.Prelude.{IfOk}
use Rattle.il_base.specs.declared.world_model.known.Known.{Known}
use Rattle.il_base.specs.declared.world_model.expr.TypeExpr.{TypeExpr}
use Rattle.il_base.specs.world_model.Worlds.{known_then, sig_expr}
use Rattle.rules.specs.link_rules.Signatures.{names_at}
use Rattle.base_laws.proofs.lemmas.link_laws.NoArguments.{plain_expr}
use Rattle.resolver.proofs.type_links.links.spec_type.Goals as goal

pub returns-in-Good : goal.returns-in-Good
returns-in-Good c =
    let all = c.args.all.now in
    let named = plain_expr all c.args.links.now c.args.a c.in-Good.signature ∙ c.requires c.in-Good.signature
    ∙ sym (ap (known_then (sig_expr (names_at all c.args.a c.args.rec.now))) c.in-Good.is) in
    subst (λ (v : Known TypeExpr). IfOk c.expr_by.result (λ e. e ≡ v)) named c.expr_by.ensures
