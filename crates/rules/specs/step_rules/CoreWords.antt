-- The words in which the members of the core library are written. A member takes its arguments, `this` first: a number's
-- `this` as the number, each other as the object. It goes on with the state, what it gives, and what it prints.
use Rattle.std.specs.Prelude.{ℕ, ℤ, List, [], ◌∷◌, Bool, Option, Some, None, if◌then◌else◌}
use Rattle.std.specs.Option.{option_and_then}
use Rattle.il_base.specs.declared.world_model.expr.TypeExpr.{TypeExpr}
use Rattle.il_base.specs.world_model.Exprs.{same_expr}
use Rattle.il_base.specs.declared.core_table.names.CoreName.{CoreName}
use Rattle.il_base.specs.declared.core_table.names.CoreName.TheVariants.{NullReferenceException}
use Rattle.il_base.specs.declared.cil_values.value.Value.{Value}
use Rattle.il_base.specs.declared.cil_values.value.Value.TheVariants as value
use Rattle.il_base.specs.declared.cil_values.object.Obj.TheVariants as object
use Rattle.il_base.specs.declared.cil_values.frame.Frame.{Frame}
use Rattle.rules.specs.step_rules.Queries.{Queries}
use Rattle.il_base.specs.declared.cil_values.state.State.{State}
use Rattle.rules.specs.step_rules.Next.{Next}
use Rattle.rules.specs.step_rules.Words.{stuck, given, required, made, object_at, truth_value}
use Rattle.rules.specs.step_rules.Closing.{Callee, front}
use Rattle.rules.specs.step_rules.Stores.{fits, is_value}
use Rattle.rules.specs.step_rules.Places.{place_value, alive}
use Rattle.rules.specs.step_rules.Objects.{is_a, made_text}
use Rattle.rules.specs.step_rules.Raising.{raise}

abbrev pub Gives : Type 0
Gives = State → Option Value → List ℕ → Next

abbrev pub CoreForm : Type 0
CoreForm = Queries → List Value → State → Gives → Next

-- ---- results

abbrev pub gives_nothing : State → Gives → Next
gives_nothing s give = give s None []

abbrev pub gives_value : Value → State → Gives → Next
gives_value v s give = give s (Some v) []

abbrev pub gives_truth : Bool → State → Gives → Next
gives_truth b s give = gives_value (truth_value b) s give

abbrev pub gives_int : ℤ → State → Gives → Next
gives_int n s give = gives_value (value.I4 n) s give

-- a new string
abbrev pub gives_text : List ℕ → State → Gives → Next
gives_text units s give = made_text units s (λ a t. gives_value (value.Object a) t give)

-- a value as an object: that of a value type in a box (III.4.1)
abbrev pub gives_boxed : Queries → TypeExpr → Value → State → Gives → Next
gives_boxed q e v s give =
    if is_value q e then made (object.Boxed e v) s (λ a t. gives_value (value.Object a) t give) else gives_value v s give

-- goes on with what is there; a new exception is raised where it isn't
abbrev pub or_raise : {A : Type 0} → Queries → CoreName → State → Option A → (A → Next) → Next
or_raise q n s None f = raise q n s
or_raise q n s (Some x) f = f x

-- ---- a call that comes again

abbrev pub with_top : Value → State → State
with_top v s = record s { top = record s.top { stack = v ∷ s.top.stack } }

-- the state before a call, with its arguments on the evaluation stack
abbrev pub before_call : List Value → State → State
before_call [] s = s
before_call (v ∷ vs) s = before_call vs (with_top v s)

-- the state of the caller, without the frame of the member that it called
abbrev pub caller_of : State → List Frame → State
caller_of s [] = s
caller_of s (f ∷ fs) = record s { top = f; below = fs }

abbrev pub caller_in : State → State
caller_in s = caller_of s s.below

-- ---- arguments

-- `this`: a pointer of exactly the type of a number, with the number; an object of the type. A pointer that leads to nothing
-- is stuck here
abbrev pub pointed_this : Queries → TypeExpr → Value → State → (Value → Next) → Next
pointed_this q owner (value.Pointer p) s f = alive p s (required (same_expr p.of owner) s (given (place_value q s p) s f))
pointed_this q owner value.Null s f = raise q NullReferenceException s
pointed_this q owner _ s f = stuck s

abbrev pub object_this : Queries → TypeExpr → Value → State → (Value → Next) → Next
object_this q owner (value.Object a) s f = required (is_a q owner (object_at s a)) s (f (value.Object a))
object_this q owner value.Null s f = raise q NullReferenceException s
object_this q owner _ s f = stuck s

unfoldable pub core_this : Queries → TypeExpr → Value → State → (Value → Next) → Next
core_this q owner v s f = if is_value q owner then pointed_this q owner v s f else object_this q owner v s f

-- an argument as its slot keeps it; an object has to be of the parameter's type
abbrev pub of_type : Queries → State → TypeExpr → Value → Option Value
of_type q s e (value.Object a) = if is_a q e (object_at s a) then Some (value.Object a) else None
of_type q s e v = Some v

abbrev pub core_arg : Queries → State → TypeExpr → Value → Option Value
core_arg q s e v = option_and_then (of_type q s e) (fits q e v)

unfoldable pub core_args : Queries → State → List TypeExpr → List Value → Option (List Value)
core_args q s [] [] = Some []
core_args q s [] (v ∷ vs) = None
core_args q s (e ∷ es) [] = None
core_args q s (e ∷ es) (v ∷ vs) = front (core_arg q s e v) (core_args q s es vs)

abbrev pub checked_args : Queries → Callee → List Value → State → (List Value → Next) → Next
checked_args q c vs s f = given (core_args q s c.signature.params vs) s f

abbrev pub with_this : Queries → Callee → List Value → State → (List Value → Next) → Next
with_this q c [] s f = stuck s
with_this q c (v ∷ vs) s f = core_this q c.called.owner v s (λ this. checked_args q c vs s (λ args. f (this ∷ args)))

-- checks the receiver, then the arguments, and goes on with them
unfoldable pub checked : Queries → Callee → List Value → State → (List Value → Next) → Next
checked q c vs s f = if c.signature.this then with_this q c vs s f else checked_args q c vs s f
