use Rattle.std.proofs.Common.{List, ap, subst, sym, ◌∙◌}
use Rattle.il_base.specs.declared.world_model.record.AsmRec.{AsmRec}
use Rattle.rules.specs.site_rules.Arguments.{sites_of_parts}
use Rattle.rules.specs.site_rules.Items.{signature_parts}
use Rattle.value_flow.specs.body_graph.Methods.{setting_in}
use Rattle.requirements.specs.Ties.{AreSites, IsItsFlow}
use Rattle.mark_flow.proofs.Flows.{plain_by_limit, its_flow, sites_by_code}
use Rattle.mark_flow.proofs.bodies.sites_by_graph.Goals as goal

pub sites-requires-clause-flow : goal.sites-requires-clause-flow
sites-requires-clause-flow c =
    subst (λ (recs : List AsmRec). IsItsFlow recs c.args.id c.in-Ok.flow) (sym c.requires.same)
    (its_flow c.args.m.now.world.now.recs (setting_in c.args.m.now) c.args.id c.args.at c.requires.home c.requires.method c.args.owner c.requires.owner c.args.graph.now c.requires.graph c.in-Ok.flow c.in-Ok.ensures)

pub returns-in_ok-found-in-Err-Limit : goal.returns-in_ok-found-in-Err-Limit
returns-in_ok-found-in-Err-Limit c =
    let over = rw c.in-Err-Limit.field-0-is at c.in-Err-Limit.ensures in
    c.in_ok-found-in-Err-Limit.ensures
    ∙ ap (λ (recs : List AsmRec). sites_of_parts recs c.args.at.asm c.args.owner (signature_parts recs c.args.at)) c.requires.same
    ∙ plain_by_limit c.args.m.now.world.now.recs (setting_in c.args.m.now) c.args.id c.args.at c.requires.home c.requires.method c.args.owner c.requires.owner c.args.graph.now c.requires.graph _ over.0 over.1

pub returns-in_ok-found-in-Ok : goal.returns-in_ok-found-in-Ok
returns-in_ok-found-in-Ok c =
    sites_by_code c.args.m.now.world.now.recs (setting_in c.args.m.now) c.args.id c.args.at c.requires.home c.requires.method c.args.owner c.requires.owner c.args.graph.now c.requires.graph c.in-Ok.flow c.in-Ok.ensures c.in_ok-found-in-Ok.found
    (subst (λ (recs : List AsmRec). AreSites recs c.args.id c.in-Ok.flow.graph.now.depths c.in_ok-found-in-Ok.found) c.requires.same c.in_ok-found-in-Ok.ensures)
