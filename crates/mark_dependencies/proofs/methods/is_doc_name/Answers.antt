use Rattle.std.proofs.Common.{sym, ap, ◌∙◌}
use Rattle.il_base.specs.world_model.Core.{same_name}
use Rattle.rules.specs.mark_rules.Dependencies.{doc_name}
use Rattle.mark_dependencies.proofs.Wanted.{one_wanted, none_wanted}
use Rattle.mark_dependencies.proofs.methods.is_doc_name.Goals as goal

pub returns-in-Some : goal.returns-in-Some
returns-in-Some c =
    c.eq.ensures ∙ ap (same_name c.args.wanted.now) c.as_slice.ensures
    ∙ one_wanted c.args.wanted.now c.in-Some.text (doc_name c.args.names.now c.args.name.now c.args.m.now) (sym c.in_ok-found.ensures ∙ c.in-Some.is)

pub returns-in-None : goal.returns-in-None
returns-in-None c = none_wanted c.args.wanted.now (doc_name c.args.names.now c.args.name.now c.args.m.now) (sym c.in_ok-found.ensures ∙ c.in-None.is)
