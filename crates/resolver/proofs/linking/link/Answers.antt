use Rattle.std.proofs.Common.{List, Err, Option, sym, ap, subst, ◌∙◌}
use Rattle.il_base.specs.declared.world_model.record.AsmRec.{AsmRec}
use Rattle.rules.specs.declared.link_rules.link_error.LinkError.{LinkError}
use Rattle.rules.specs.link_rules.Linked.{world_in}
use Rattle.link_faults.specs.Answer.{Answers}
use Rattle.resolver.proofs.Inputs.{faults, within, refused}
use Rattle.resolver.proofs.linking.link.Goals as goal

pub link_fault-requires-clause-inputs : goal.link_fault-requires-clause-inputs
link_fault-requires-clause-inputs c =
    within c.args.recs c.as_slice-2.result.now c.len-inputs.result (c.as_slice-2.ensures ∙ c.in-Ok.ensures) c.len-inputs.ensures

pub returns-in-Err-link_fault : goal.returns-in-Err-link_fault
returns-in-Err-link_fault c =
    refused c.args.recs c.in-Err-link_fault.fault
    (subst (λ (found : Option LinkError). Answers found (Err c.in-Err-link_fault.fault))
    (faults c.args.recs c.as_slice-2.result.now c.len-inputs.result (c.as_slice-2.ensures ∙ c.in-Ok.ensures) c.len-inputs.ensures) c.in-Err-link_fault.ensures)

pub returns-in-Ok-world_with : goal.returns-in-Ok-world_with
returns-in-Ok-world_with c = (
  sym (faults c.args.recs c.as_slice-2.result.now c.len-inputs.result (c.as_slice-2.ensures ∙ c.in-Ok.ensures) c.len-inputs.ensures) ∙ c.in-Ok-link_fault.ensures,
  c.in-Ok-world_with.ensures ∙ ap (λ (xs : List AsmRec). world_in xs) c.in-Ok.ensures,
)
