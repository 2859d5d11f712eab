use Rattle.std.proofs.Common.{◌≡◌, [], drop, List}
use Rattle.il_base.specs.declared.cil_values.state.State.{State}
use Rattle.il_base.specs.declared.cil_values.value.Value.{Value}
use Rattle.rules.specs.step_rules.Next.{Next}
use Rattle.rules.specs.step_rules.CoreSearches.{all_made}
use Rattle.cil_core.proofs.cil_type_members.member_searches.all_made.Given as goal

abbrev pub invariant-loop-m : goal.invariant-loop-m
invariant-loop-m l = (f : List Value → State → Next) → all_made (drop l.m-index l.members) l.cells l.st f ≡ all_made l.members [] l.fn.st f
