use Rattle.std.proofs.Common.{sym, ap, ◌∙◌}
use Rattle.rules.specs.link_rules.Cycles.{listed}
use Rattle.mark_dependencies.specs.Lookups.{recs_in}
use Rattle.mark_dependencies.proofs.Wanted.{named_by_one, named_by_none}
use Rattle.mark_dependencies.proofs.methods.has_doc_name.Goals as goal

pub returns-in_ok-is-in-Some : goal.returns-in_ok-is-in-Some
returns-in_ok-is-in-Some c =
    named_by_one (recs_in c.args.lookup.now) c.args.lookup.now.names.now c.args.wanted.now c.args.at c.args.name.now c.in-Some.ty c.in_ok-is-in-Some.is' c.requires.names (ap listed (sym c.in-Some.is) ∙ c.in_ok-found.ensures) c.in_ok-is-in-Some.ensures

pub returns-in-None : goal.returns-in-None
returns-in-None c = named_by_none (recs_in c.args.lookup.now) c.args.wanted.now c.args.at c.args.name.now (ap listed (sym c.in-None.is) ∙ c.in_ok-found.ensures)
