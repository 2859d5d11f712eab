use Rattle.std.proofs.Common.{sym, ap, ◌∙◌}
use Rattle.rules.specs.link_rules.Cycles.{listed}
use Rattle.rules.specs.type_rules.Rows.{rec_at}
use Rattle.mark_roots.specs.Lookups.{recs_in}
use Rattle.mark_roots.proofs.Fitting.{no_text}
use Rattle.mark_roots.proofs.methods.has_text.Goals as goal

pub has_text_with-requires-clause-ty : goal.has_text_with-requires-clause-ty
has_text_with-requires-clause-ty c = sym c.in_ok-found.ensures ∙ ap listed c.in-Some.is

pub returns-in-None : goal.returns-in-None
returns-in-None c =
    no_text (recs_in c.args.lookup.now) c.args.r.now c.args.t c.args.at c.args.m.now (rec_at (recs_in c.args.lookup.now) c.args.at) (ap listed (sym c.in-None.is) ∙ c.in_ok-found.ensures)
