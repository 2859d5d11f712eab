use Rattle.std.proofs.Common.{sym, ◌∙◌}
use Rattle.mark_roots.specs.Lookups.{recs_in}
use Rattle.mark_roots.proofs.Grouping.{one_kept, none_kept}
use Rattle.mark_roots.proofs.waiting.add_waiting_root.Goals as goal

pub returns-in_ok-add_kept-in-Some : goal.returns-in_ok-add_kept-in-Some
returns-in_ok-add_kept-in-Some c = one_kept (recs_in c.args.lookup.now) c.args.id c.args.r.now c.in-Some.at _ c.args.facts.now (sym c.in_ok-found.ensures ∙ c.in-Some.is) c.in_ok-add_kept-in-Some.ensures

pub returns-in-None : goal.returns-in-None
returns-in-None c = none_kept (recs_in c.args.lookup.now) c.args.id c.args.r.now c.args.facts.now (sym c.in_ok-found.ensures ∙ c.in-None.is)
