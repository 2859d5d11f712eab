use Rattle.std.proofs.Common.{sym, ◌∙◌}
use Rattle.il_base.specs.declared.cil_values.value.Value.TheVariants.{Object}
use Rattle.rules.specs.step_rules.CoreWords.{gives_value}
use Rattle.cil_core.proofs.cil_type_members.member_searches.gives_member.Goals as goal

pub returns : goal.returns
returns c = λ give. c.gives_value.ensures give ∙ sym (c.in_ok-at.ensures (λ at t. gives_value (Object at) t give))
