-- Loads and stores through pointers (III.3.42, III.3.62, III.4.4, III.4.5, III.4.13, III.4.29).
use Rattle.std.specs.Prelude.{ℕ, List, ◌∷◌, ◌==◌, Option, Some, None, if◌then◌else◌}
use Rattle.il_base.specs.declared.opcode.TheConstants as opcode
use Rattle.il_base.specs.declared.element.TheConstants as element
use Rattle.il_base.specs.declared.world_model.expr.TypeExpr.{TypeExpr}
use Rattle.il_base.specs.declared.core_table.names.CoreName.TheVariants.{NullReferenceException}
use Rattle.il_base.specs.declared.cil_values.value.Value.{Value}
use Rattle.il_base.specs.declared.cil_values.value.Value.TheVariants as value
use Rattle.il_base.specs.declared.cil_values.path.Path.{Path}
use Rattle.il_base.specs.declared.cil_values.resolved.Instruction.{Instruction}
use Rattle.il_base.specs.declared.cil_values.resolved.Use.TheVariants.{Typ as typ}
use Rattle.rules.specs.step_rules.Queries.{Queries}
use Rattle.il_base.specs.declared.cil_values.state.State.{State}
use Rattle.rules.specs.step_rules.Next.{Next}
use Rattle.rules.specs.step_rules.Words.{Form, Here, stuck, given, had, required, popped, goes}
use Rattle.rules.specs.step_rules.Closing.{closed}
use Rattle.rules.specs.step_rules.Stores.{Access, by_code, by_reference, access_of, allows, loaded, stored, zero_of}
use Rattle.rules.specs.step_rules.Places.{at_place, put_at, alive}
use Rattle.rules.specs.step_rules.Raising.{raise}

-- ---- a pointer that an access takes, checked in this order: kind, null, a frame that ended, type, cell

abbrev pub pointed : Queries → Access → Path → State → (Path → Value → Next) → Next
pointed q a p s f = alive p s (required (allows q a p.of) s (at_place q p s (f p)))

unfoldable pub through : Queries → Access → Value → State → (Path → Value → Next) → Next
through q a (value.Pointer p) s f = pointed q a p s f
through q a value.Null s f = raise q NullReferenceException s
through q a _ s f = stuck s

-- ---- loads and stores

abbrev pub load_by : Queries → Here → Instruction → State → Access → Next
load_by q here i s a =
    popped s.top.stack s (λ r stack. through q a r s (λ p v. given (loaded a v) s (λ w. goes here i (w ∷ stack) s)))

abbrev pub puts : Queries → Here → Instruction → State → Access → Path → Value → List Value → Next
puts q here i s a p v stack = given (stored q a p.of v) s (λ w. put_at q p w s (goes here i stack))

abbrev pub store_by : Queries → Here → Instruction → State → Access → Next
store_by q here i s a =
    popped s.top.stack s (λ v below. popped below s (λ r stack. through q a r s (λ p old. puts q here i s a p v stack)))

-- `cpobj`: the destination is below the source
abbrev pub copy_by : Queries → Here → Instruction → State → Access → Next
copy_by q here i s a =
    popped s.top.stack s (λ from below. popped below s (λ to stack. through q a to s (λ p old. through q a from s (λ o v.
    given (loaded a v) s (λ w. puts q here i s a p w stack)))))

-- `initobj`: a type without a zero value stops the step before anything is popped
abbrev pub init_by : Queries → Here → Instruction → State → TypeExpr → Next
init_by q here i s e =
    had (zero_of q e) s (λ zero. popped s.top.stack s (λ r stack.
    through q (access_of q e) r s (λ p old. puts q here i s (access_of q e) p zero stack)))

-- ---- by opcode

unfoldable pub load_access : ℕ → Option Access
load_access code =
    if code == opcode.LDIND_I1 then Some (by_code element.I1)
    else if code == opcode.LDIND_U1 then Some (by_code element.U1)
    else if code == opcode.LDIND_I2 then Some (by_code element.I2)
    else if code == opcode.LDIND_U2 then Some (by_code element.U2)
    else if code == opcode.LDIND_I4 then Some (by_code element.I4)
    else if code == opcode.LDIND_U4 then Some (by_code element.U4)
    else if code == opcode.LDIND_I8 then Some (by_code element.I8)
    else if code == opcode.LDIND_I then Some (by_code element.I)
    else if code == opcode.LDIND_REF then Some by_reference
    else None

unfoldable pub store_access : ℕ → Option Access
store_access code =
    if code == opcode.STIND_I1 then Some (by_code element.I1)
    else if code == opcode.STIND_I2 then Some (by_code element.I2)
    else if code == opcode.STIND_I4 then Some (by_code element.I4)
    else if code == opcode.STIND_I8 then Some (by_code element.I8)
    else if code == opcode.STIND_I then Some (by_code element.I)
    else if code == opcode.STIND_REF then Some by_reference
    else None

abbrev pub store_or_stuck : Queries → Here → Instruction → State → Option Access → Next
store_or_stuck q here i s (Some a) = store_by q here i s a
store_or_stuck q here i s None = stuck s

abbrev pub plain_access : Queries → Here → Instruction → State → Option Access → Next
plain_access q here i s (Some a) = load_by q here i s a
plain_access q here i s None = store_or_stuck q here i s (store_access i.opcode)

-- `ldobj`, `stobj`, `cpobj`, `initobj`
abbrev pub typed_access : Queries → Here → Instruction → State → TypeExpr → Next
typed_access q here i s e =
    if i.opcode == opcode.LDOBJ then load_by q here i s (access_of q e)
    else if i.opcode == opcode.STOBJ then store_by q here i s (access_of q e)
    else if i.opcode == opcode.CPOBJ then copy_by q here i s (access_of q e)
    else if i.opcode == opcode.INITOBJ then init_by q here i s e
    else stuck s

unfoldable pub indirect : Form
indirect q here i s = elim i.operand [ typ e ↦ closed q here e s (typed_access q here i s) | _ ↦ plain_access q here i s (load_access i.opcode) ]
