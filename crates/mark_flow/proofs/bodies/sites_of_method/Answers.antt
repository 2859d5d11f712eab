use Rattle.std.proofs.Common.{List, ap, ◌∙◌}
use Rattle.il_base.specs.declared.world_model.record.AsmRec.{AsmRec}
use Rattle.rules.specs.site_rules.Arguments.{sites_of_parts}
use Rattle.rules.specs.site_rules.Items.{signature_parts}
use Rattle.value_flow.specs.body_graph.Methods.{setting_in}
use Rattle.mark_flow.proofs.Flows.{plain_by_bad}
use Rattle.mark_flow.proofs.bodies.sites_of_method.Goals as goal

pub returns-in_ok-found-in-Err-Bad : goal.returns-in_ok-found-in-Err-Bad
returns-in_ok-found-in-Err-Bad c =
    c.in_ok-found-in-Err-Bad.ensures
    ∙ ap (λ (recs : List AsmRec). sites_of_parts recs c.args.at.asm c.args.owner (signature_parts recs c.args.at)) c.requires.same
    ∙ plain_by_bad c.args.m.now.world.now.recs (setting_in c.args.m.now) c.args.id c.args.at c.requires.home c.requires.method c.args.owner c.requires.owner (rw c.in-Err-Bad.field-0-is at c.in-Err-Bad.ensures)
