use Rattle.std.proofs.Common.{sym, ◌∙◌}
use Rattle.mark_flow.specs.Tables.{recs_in}
use Rattle.mark_flow.proofs.Flows.{plain_by_none}
use Rattle.mark_flow.proofs.bodies.method_sites.Goals as goal

pub returns-in_ok-found-in-None : goal.returns-in_ok-found-in-None
returns-in_ok-found-in-None c =
    c.in_ok-found-in-None.ensures
    ∙ plain_by_none (recs_in c.args.tables.now) c.args.id c.args.at c.in_ok-owner.owner c.requires.home (sym c.in-None.ensures.is) c.in_ok-owner.ensures
