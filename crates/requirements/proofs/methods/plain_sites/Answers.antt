use Rattle.std.proofs.Common.{◌≡◌, List, Option, Some, sym, ap, ◌∙◌}
use Rattle.il_base.specs.declared.ids.TypeId.{TypeId}
use Rattle.il_base.specs.declared.world_model.record.AsmRec.{AsmRec}
use Rattle.rules.specs.type_rules.Slots.{method_home}
use Rattle.mark_parts.specs.mark_tables.Assemblies.{all_of}
use Rattle.rules.specs.flow_rules.Flows.{owner_of}
use Rattle.rules.specs.site_rules.Bodies.{head_sites}
use Rattle.requirements.proofs.Lists.{one_listed}
use Rattle.requirements.proofs.Same.{owned_by}
use Rattle.requirements.proofs.methods.plain_sites.Goals as goal

pub returns : goal.returns
returns c =
    let recs : List AsmRec = all_of c.args.annotated.now.marker.now in
    let at = c.in-Ok-Some.at in
    let home : method_home recs c.args.m ≡ Some at = ap (λ (xs : List AsmRec). method_home xs c.args.m) (sym c.as_slice.ensures) ∙ sym c.in-Ok-Some.ensures ∙ c.in-Ok-Some.field-0-is in
    c.in_ok-sites.ensures
    ∙ ap (λ (o : Option TypeId). head_sites recs o at) (sym (owned_by recs c.args.m at c.in_ok-owner.owner home c.in_ok-owner.ensures))
    ∙ sym (one_listed (head_sites recs (owner_of recs c.args.m)) (method_home recs c.args.m) at home)
