use Rattle.std.proofs.Common.{sym, ap, ◌∙◌}
use Rattle.rules.specs.link_rules.Cycles.{listed}
use Rattle.mark_dependencies.specs.Lookups.{recs_in}
use Rattle.mark_dependencies.proofs.Needing.{one_sought, none_sought}
use Rattle.mark_dependencies.proofs.dependencies.add_dependency.Goals as goal

pub returns-in_ok-add_type-in-Some : goal.returns-in_ok-add_type-in-Some
returns-in_ok-add_type-in-Some c =
    one_sought (recs_in c.args.lookup.now) c.args.item c.args.at c.args.d.now c.in-Some.t _ c.args.facts.now (ap listed (sym c.in-Some.is) ∙ c.in_ok-found.ensures) c.in_ok-add_type-in-Some.ensures

pub returns-in-None : goal.returns-in-None
returns-in-None c = none_sought (recs_in c.args.lookup.now) c.args.item c.args.at c.args.d.now c.args.facts.now (ap listed (sym c.in-None.is) ∙ c.in_ok-found.ensures)
