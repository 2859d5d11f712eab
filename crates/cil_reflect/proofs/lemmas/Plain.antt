-- Words that hold whatever is on the evaluation stack, with the stack as it is; and the frame below.
use Rattle.std.proofs.Common.{◌≡◌, [], sym, ap, ◌∙◌}
use Rattle.il_base.specs.declared.world_model.expr.TypeExpr.{TypeExpr}
use Rattle.il_base.specs.declared.cil_values.state.State.{State}
use Rattle.rules.specs.step_rules.Queries.{Queries}
use Rattle.rules.specs.step_rules.Next.{Next}
use Rattle.rules.specs.step_rules.Closing.{Accessed}
use Rattle.rules.specs.step_rules.Fields.{with_static}
use Rattle.rules.specs.step_rules.CoreWords.{caller_of, caller_in}
use Rattle.machine_objects.specs.declared.cil_fields.statics.Ready.{Ready}
use Rattle.machine_objects.specs.declared.cil_fields.statics.Ready.TheVariants.{Is, Over}
use Rattle.machine_objects.specs.cil_fields.Placing.{IsReady}
use Rattle.cil_reflect.specs.Aims.{ready_next}

pub ready_plain : (q : Queries) (a : Accessed) (s t : State) (x : Ready) → IsReady q a s t x → (f : TypeExpr → State → Next) → with_static q a s f ≡ ready_next x t f
ready_plain q a s t (Is e) h f = h.1 s.top.stack f ∙ ap (f e) (λ i. record t { top = record t.top { stack = (sym h.0 i).stack } })
ready_plain q a s t (Over out) h f = h s.top.stack f

-- where no frame waits, the caller's state is the state
pub alone : (s : State) → s.below ≡ [] → caller_in s ≡ s
alone s e = ap (caller_of s) e
