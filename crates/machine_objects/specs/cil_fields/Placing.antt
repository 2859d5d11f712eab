-- Fields and their places, as the code has them.
use Rattle.std.specs.Prelude.{◌≡◌, List, [], ◌∷◌, Option, Some, None}
use Rattle.il_base.specs.declared.core_table.names.CoreName.TheVariants.{NullReferenceException}
use Rattle.il_base.specs.declared.world_model.expr.TypeExpr.{TypeExpr}
use Rattle.il_base.specs.declared.cil_values.value.Value.{Value}
use Rattle.il_base.specs.declared.cil_values.path.Path.{Path}
use Rattle.il_base.specs.declared.cil_values.resolved.Instruction.{Instruction}
use Rattle.il_base.specs.declared.cil_values.state.State.{State}
use Rattle.rules.specs.step_rules.Queries.{Queries}
use Rattle.rules.specs.step_rules.Next.{Next}
use Rattle.rules.specs.step_rules.Words.{Here, goes, popped, stuck, stopped}
use Rattle.rules.specs.step_rules.Places.{at_place}
use Rattle.rules.specs.step_rules.Closing.{Accessed}
use Rattle.rules.specs.step_rules.Fields.{StructCell, with_static, field_place, store_static, load_with, address_with, store_with}
use Rattle.rules.specs.step_rules.Raising.{raise}
use Rattle.machine_words.specs.declared.cil_words.step_out.StepOut.{StepOut}
use Rattle.machine_words.specs.cil_words.Steps.{next_of}
use Rattle.machine_numbers.specs.cil_pointers.Reaching.{with_stack}
use Rattle.machine_objects.specs.declared.cil_fields.placed.Placed.{Placed}
use Rattle.machine_objects.specs.declared.cil_fields.placed.Placed.TheVariants.{At, Null, Gone, Refused}
use Rattle.machine_objects.specs.declared.cil_fields.cells.StructCell as code
use Rattle.machine_objects.specs.declared.cil_fields.statics.Ready.{Ready}
use Rattle.machine_objects.specs.declared.cil_fields.statics.Ready.TheVariants.{Is, Over}

abbrev pub cell_by : code.StructCell → StructCell
cell_by c = record { number = c.number; typ = c.typ }

-- how an access goes on with the place of a field
abbrev pub placed_by : Queries → Placed → State → (Path → Next) → Next
placed_by q (At p) s f = f p
placed_by q Null s f = raise q NullReferenceException s
placed_by q Gone s f = stopped s
placed_by q Refused s f = stuck s

-- Whatever is on the evaluation stack, a word goes on with the state that is left, or ends the step. The top frame is then as
-- it was.
abbrev pub Begins : (State → (State → Next) → Next) → State → State → Option StepOut → Type 0
Begins word s t None = (t.top ≡ s.top) × ((vs : List Value) → (f : State → Next) → word (with_stack vs s) f ≡ f (with_stack vs t))
Begins word s t (Some out) = (vs : List Value) → (f : State → Next) → word (with_stack vs s) f ≡ next_of out t []

-- Whatever is on the evaluation stack, an access to a static field goes on with its type and the state that is left, or ends
-- the step. The top frame is then as it was.
abbrev pub IsReady : Queries → Accessed → State → State → Ready → Type 0
IsReady q a s t (Is e) = (t.top ≡ s.top) × ((vs : List Value) → (f : TypeExpr → State → Next) → with_static q a (with_stack vs s) f ≡ f e (with_stack vs t))
IsReady q a s t (Over out) = (vs : List Value) → (f : TypeExpr → State → Next) → with_static q a (with_stack vs s) f ≡ next_of out t []

-- `ldfld` of what is no struct
abbrev pub load_through : Queries → Here → Instruction → Accessed → Value → List Value → State → Next
load_through q here i a r stack s = field_place q a r s (λ p. at_place q p s (λ v. goes here i (v ∷ stack) s))

-- the accesses by what they take off the evaluation stack
abbrev pub store_static_popped : Queries → Here → Instruction → Accessed → State → Next
store_static_popped q here i a s = popped s.top.stack s (λ v stack. store_static q here i a v stack s)

abbrev pub load_popped : Queries → Here → Instruction → Accessed → State → Next
load_popped q here i a s = popped s.top.stack s (λ r stack. load_with q here i a r stack s)

abbrev pub address_popped : Queries → Here → Instruction → Accessed → State → Next
address_popped q here i a s = popped s.top.stack s (λ r stack. address_with q here i a r stack s)

abbrev pub store_popped : Queries → Here → Instruction → Accessed → State → Next
store_popped q here i a s = popped s.top.stack s (λ v below. popped below s (λ r stack. store_with q here i a r v stack s))
