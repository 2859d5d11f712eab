-- What `box` and `unbox.any` come to.
use Rattle.std.specs.Prelude.{◌∷◌}
use Rattle.il_base.specs.declared.world_model.expr.TypeExpr.{TypeExpr}
use Rattle.il_base.specs.declared.cil_values.value.Value.TheVariants as value
use Rattle.il_base.specs.declared.cil_values.resolved.Instruction.{Instruction}
use Rattle.il_base.specs.declared.cil_values.resolved.Use.TheVariants.{Typ as typ}
use Rattle.il_base.specs.declared.cil_values.state.State.{State}
use Rattle.rules.specs.step_rules.Queries.{Queries}
use Rattle.rules.specs.step_rules.Next.{Next}
use Rattle.rules.specs.step_rules.Words.{Form, Here, stuck, popped, goes}
use Rattle.rules.specs.step_rules.Closing.{closed}
use Rattle.rules.specs.step_rules.Dispatch.{path_into_box}
use Rattle.rules.specs.step_rules.Types.{boxes, unboxes}

-- `box` by its operand; the name of the definition is a word of Rust
abbrev pub box_form : Form
box_form q here i s = elim i.operand [ typ e ↦ closed q here e s (λ c. popped s.top.stack s (boxes q here i s c)) | _ ↦ stuck s ]

-- `unbox` of a value type
abbrev pub pointer_by : Queries → Here → Instruction → State → TypeExpr → Next
pointer_by q here i s e = popped s.top.stack s (λ v stack. unboxes q s e v (λ a w. goes here i (value.Pointer (path_into_box a e) ∷ stack) s))

-- `unbox.any` of a value type
abbrev pub value_by : Queries → Here → Instruction → State → TypeExpr → Next
value_by q here i s e = popped s.top.stack s (λ v stack. unboxes q s e v (λ a w. goes here i (w ∷ stack) s))
