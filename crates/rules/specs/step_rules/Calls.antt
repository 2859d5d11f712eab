-- Calls and new objects (III.2.1, III.3.19, III.4.2, III.4.21).
use Rattle.std.specs.Prelude.{ℕ, nat_eq, List, [], ◌∷◌, length, ◌==◌, Bool, false, not, ◌&&◌, ◌||◌, Option, Some, None, if◌then◌else◌}
use Rattle.std.specs.Option.{option_map, option_and_then}
use Rattle.il_base.specs.declared.opcode.TheConstants.{CALL, CONSTRAINED, READONLY}
use Rattle.il_base.specs.declared.world_model.expr.TypeExpr.{TypeExpr}
use Rattle.il_base.specs.world_model.Exprs.{same_expr}
use Rattle.il_base.specs.declared.core_table.names.CoreName.TheVariants.{NullReferenceException}
use Rattle.il_base.specs.declared.cil_values.value.Value.{Value}
use Rattle.il_base.specs.declared.cil_values.value.Value.TheVariants as value
use Rattle.il_base.specs.declared.cil_values.object.Obj.TheVariants as object
use Rattle.il_base.specs.declared.cil_values.path.Path.{Path}
use Rattle.il_base.specs.declared.cil_values.resolved.Instruction.{Instruction}
use Rattle.il_base.specs.declared.cil_values.definition.Signature.{Signature}
use Rattle.il_base.specs.declared.cil_values.resolved.Use.TheVariants.{Typ as typ, Method as method}
use Rattle.rules.specs.step_rules.Queries.{Queries}
use Rattle.il_base.specs.declared.cil_values.state.State.{State}
use Rattle.il_base.specs.declared.cil_values.frame.Prefix.{Prefix}
use Rattle.il_base.specs.declared.cil_values.frame.Waits.{Waits}
use Rattle.rules.specs.step_rules.Next.{Next, went}
use Rattle.il_base.specs.declared.cil_values.frame.Prefix.TheVariants as prefixed
use Rattle.il_base.specs.declared.cil_values.frame.Waits.TheVariants as waits
use Rattle.il_base.specs.declared.cil_values.core_call.CoreCall.{CoreCall}
use Rattle.rules.specs.step_rules.Words.{Form, Here, stuck, ends_at, given, had, required, taken, moved, may_go, goes_with, made, object_at}
use Rattle.rules.specs.step_rules.Closing.{Callee, closed, closed_use}
use Rattle.rules.specs.step_rules.Stores.{all_fit, is_value, zero_of}
use Rattle.rules.specs.step_rules.Places.{at_place, alive, boxed_in}
use Rattle.rules.specs.step_rules.Objects.{type_of, new_instance}
use Rattle.rules.specs.step_rules.Raising.{raise}
use Rattle.rules.specs.step_rules.Frames.{enter, started, definition_of, is_abstract_type}
use Rattle.rules.specs.step_rules.Dispatch.{is_abstract, slots_of, found_from, path_into_box, this_for}
use Rattle.rules.specs.step_rules.CoreWords.{Gives}
use Rattle.rules.specs.step_rules.Core.{core_call}

-- ---- what is called runs

-- the arguments as the slots keep them; `this` as it is
abbrev pub after_this : Queries → Signature → List Value → Option (List Value)
after_this q sig [] = None
after_this q sig (v ∷ vs) = option_map (λ ws. v ∷ ws) (all_fit q sig.params vs)

abbrev pub slot_values : Queries → Signature → List Value → Option (List Value)
slot_values q sig vs = if sig.this then after_this q sig vs else all_fit q sig.params vs

abbrev pub invoked : Queries → Callee → List Value → Waits → State → Gives → Option CoreCall → Next
invoked q c vs waits s give (Some k) = core_call q c k vs s give
invoked q c vs waits s give None = given (slot_values q c.signature vs) s (λ ws. enter q c ws waits s)

-- Runs a method: a member of the core library in this step, any other in a frame for which this one waits. The arguments are off
-- the stack already.
unfoldable pub invoke : Queries → Callee → List Value → Waits → State → Gives → Next
invoke q c vs waits s give = invoked q c vs waits s give (q.core c.called.method.0)

abbrev pub pushed : Option Value → List Value → List Value
pushed None stack = stack
pushed (Some v) stack = v ∷ stack

-- pushes the result of a call
abbrev pub gives_result : Here → Instruction → Gives
gives_result here i s v bytes = goes_with here i (pushed v s.top.stack) s bytes

abbrev pub runs : Queries → Here → Instruction → Callee → List Value → State → Next
runs q here i c vs s = invoke q c vs waits.Nothing s (gives_result here i)

-- ---- the receiver

-- runs a method that was found, with `this` as it takes it
abbrev pub runs_on : Queries → Here → Instruction → List Value → State → Value → Callee → Next
runs_on q here i vs s v c = given (this_for q s c v) s (λ this. runs q here i c (this ∷ vs) s)

-- `call`: `this` is a pointer where the owner is a value type, else an object
abbrev pub call_on : Queries → Here → Instruction → Callee → List Value → State → Value → Next
call_on q here i c vs s value.Null = raise q NullReferenceException s
call_on q here i c vs s (value.Pointer p) = required (is_value q c.called.owner) s (runs q here i c (value.Pointer p ∷ vs) s)
call_on q here i c vs s (value.Object a) = required (not (is_value q c.called.owner)) s (runs q here i c (value.Object a ∷ vs) s)
call_on q here i c vs s _ = stuck s

-- `callvirt` runs what it finds from the object's type
abbrev pub virtual_on : Queries → Here → Instruction → Callee → List Value → State → ℕ → Next
virtual_on q here i c vs s a =
    given (object_at s a) s (λ o. found_from q c (type_of q o) s (runs_on q here i vs s (value.Object a)))

abbrev pub call_virtual : Queries → Here → Instruction → Callee → List Value → State → Value → Next
call_virtual q here i c vs s value.Null = raise q NullReferenceException s
call_virtual q here i c vs s (value.Object a) = virtual_on q here i c vs s a
call_virtual q here i c vs s _ = stuck s

abbrev pub same_definition : Option ℕ → Option ℕ → Bool
same_definition (Some a) (Some b) = nat_eq a b
same_definition _ _ = false

-- whether a method's owner has the definition of a type
abbrev pub is_own : TypeExpr → TypeExpr → Bool
is_own owner e = same_expr owner e || same_definition (definition_of owner) (definition_of e)

-- `constrained.` on a value type (III.2.1): the pointer where the method that is found stands in the type's definition, else a box
abbrev pub boxed_on : Queries → Here → Instruction → List Value → State → TypeExpr → Path → Callee → Next
boxed_on q here i vs s e p found =
    at_place q p s (λ v. made (object.Boxed e v) s (λ a t. runs_on q here i vs t (value.Object a) found))

abbrev pub constrained_found : Queries → Here → Instruction → List Value → State → TypeExpr → Path → Callee → Next
constrained_found q here i vs s e p found =
    if is_own found.called.owner e then runs q here i found (value.Pointer p ∷ vs) s else boxed_on q here i vs s e p found

-- `constrained.` on a reference type: the object in the place that the pointer leads to
abbrev pub constrained_at : Queries → Here → Instruction → Callee → List Value → State → TypeExpr → Path → Next
constrained_at q here i c vs s e p =
    if is_value q e then found_from q c e s (constrained_found q here i vs s e p) else at_place q p s (call_virtual q here i c vs s)

abbrev pub constrained_on : Queries → Here → Instruction → Callee → List Value → State → TypeExpr → Value → Next
constrained_on q here i c vs s e value.Null = raise q NullReferenceException s
constrained_on q here i c vs s e (value.Pointer p) = alive p s (required (same_expr p.of e) s (constrained_at q here i c vs s e p))
constrained_on q here i c vs s e _ = stuck s

abbrev pub by_prefix : Queries → Here → Instruction → Callee → List Value → State → Prefix → Value → Next
by_prefix q here i c vs s (prefixed.Constrained e) v = constrained_on q here i c vs s e v
by_prefix q here i c vs s _ v = call_virtual q here i c vs s v

-- `callvirt` on its receiver, with the prefix as it was at the instruction
abbrev pub receives : Queries → Here → Instruction → Callee → List Value → State → Prefix → Value → Next
receives q here i c vs s prefix v =
    if i.opcode == CALL then call_on q here i c vs s v else by_prefix q here i c vs s prefix v

abbrev pub received : Queries → Here → Instruction → Callee → List Value → State → Prefix → Next
received q here i c [] s prefix = stuck s
received q here i c (v ∷ vs) s prefix = receives q here i c vs s prefix v

-- ---- `call` and `callvirt`

-- the frame while it waits: still at the call, with the arguments off the stack
abbrev pub waiting : List Value → State → State
waiting stack s = moved s.top.at stack s

abbrev pub with_args : Queries → Here → Instruction → Callee → State → List Value × List Value → Next
with_args q here i c s t =
    if c.signature.this then received q here i c t.0 (waiting t.1 s) s.top.prefix else runs q here i c t.0 (waiting t.1 s)

-- whether a call begins the type of its method: that of a static method or a constructor (II.10.5.3)
abbrev pub begins : Callee → Bool
begins c = not c.signature.this || c.method.constructor

unfoldable pub begun_for : Queries → Callee → State → (State → Next) → Next
begun_for q c s f = if begins c then started q false c.called.owner s f else f s

-- `call` takes no abstract method, `callvirt` no static one
abbrev pub may_call : Instruction → Callee → Bool
may_call i c = if i.opcode == CALL then not (is_abstract c.method) else c.signature.this

abbrev pub calls : Queries → Here → Instruction → State → Callee → Next
calls q here i s c =
    required (may_call i c) s (begun_for q c s (λ s. given (taken (slots_of c.signature) s.top.stack) s (with_args q here i c s)))

-- An end within a member of the core library that reflection called, which has no code, stands at the call.
unfoldable pub call : Form
call q here i s = ends_at s (elim i.operand [ method m ↦ closed_use q here m s (calls q here i s) | _ ↦ stuck s ])

-- ---- `newobj`

-- an instance constructor of a type of which there are objects
abbrev pub may_make : Queries → Callee → Bool
may_make q c = c.method.constructor && c.signature.this && not (is_abstract_type q c.called.owner)

-- pushes the new object or value, whatever the constructor returns
abbrev pub gives_made : Here → Instruction → Value → Gives
gives_made here i v s result bytes = goes_with here i (v ∷ s.top.stack) s bytes

abbrev pub constructs : Queries → Here → Instruction → Callee → List Value → ℕ → State → Next
constructs q here i c vs a s = invoke q c (value.Object a ∷ vs) (waits.Makes a) s (gives_made here i (value.Object a))

-- a value type's constructor takes a pointer into a box, whose value is pushed at the end
abbrev pub constructs_value : Queries → Here → Instruction → Callee → List Value → ℕ → State → Next
constructs_value q here i c vs a s =
    invoke q c (value.Pointer (path_into_box a c.called.owner) ∷ vs) (waits.MakesValue a) s
    (λ t result bytes. given (option_and_then boxed_in (object_at t a)) t (λ v. gives_made here i v t result bytes))

abbrev pub makes_with : Queries → Here → Instruction → Callee → State → Value → List Value × List Value → Next
makes_with q here i c s zero t =
    let w = waiting t.1 s in
    if is_value q c.called.owner
    then made (object.Boxed c.called.owner zero) w (constructs_value q here i c t.0)
    else made (new_instance q c.called.owner) w (constructs q here i c t.0)

-- a type without a zero value stops the step before anything is popped
abbrev pub makes : Queries → Here → Instruction → State → Callee → Next
makes q here i s c =
    required (may_make q c) s (had (zero_of q c.called.owner) s (λ zero. begun_for q c s (λ s.
    given (taken (length c.signature.params) s.top.stack) s (makes_with q here i c s zero))))

unfoldable pub new_object : Form
new_object q here i s = elim i.operand [ method m ↦ closed_use q here m s (makes q here i s) | _ ↦ stuck s ]

-- ---- prefixes (III.2)

abbrev pub with_prefix : Prefix → State → State
with_prefix p s = record s { top = record s.top { prefix = p } }

-- sets a prefix, which holds for the next instruction, whatever that is
abbrev pub goes_under : Here → Instruction → State → Prefix → Next
goes_under here i s p = required (may_go here.code i.at i.next) s (went (with_prefix p (moved i.next s.top.stack s)) [])

-- `volatile.` (III.2.6) says nothing here
abbrev pub other_prefix : Here → Instruction → State → Next
other_prefix here i s = if i.opcode == READONLY then goes_under here i s prefixed.Readonly else goes_under here i s prefixed.None

unfoldable pub prefix : Form
prefix q here i s =
    if i.opcode == CONSTRAINED
    then (elim i.operand [ typ e ↦ closed q here e s (λ c. goes_under here i s (prefixed.Constrained c)) | _ ↦ stuck s ])
    else other_prefix here i s
