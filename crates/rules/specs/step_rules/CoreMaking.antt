-- The members of Activator: of which types they make an object, and how. The constructor runs last, in `Core`.
use Rattle.std.specs.Prelude.{ℕ, List, [], ◌∷◌, nat_eq, Bool, false, not, Option, Some, None, if◌then◌else◌}
use Rattle.il_base.specs.declared.world_model.expr.TypeExpr.{TypeExpr, out-TypeExpr}
use Rattle.il_base.specs.declared.world_model.expr.TypeExpr.TheOpen.{TypeExpr-F}
use Rattle.il_base.specs.declared.world_model.expr.MethodUse.{MethodUse}
use Rattle.il_base.specs.declared.core_table.names.CoreName.TheVariants.{ArgumentException, ArgumentNullException, MissingMethodException}
use Rattle.il_base.specs.declared.cil_values.definition.Head.{Head}
use Rattle.il_base.specs.declared.cil_values.value.Value.{Value}
use Rattle.il_base.specs.declared.cil_values.value.Value.TheVariants as value
use Rattle.il_base.specs.declared.cil_values.object.Obj.TheVariants as object
use Rattle.rules.specs.step_rules.Queries.{Queries}
use Rattle.il_base.specs.declared.cil_values.state.State.{State}
use Rattle.rules.specs.step_rules.Next.{Next}
use Rattle.rules.specs.step_rules.Words.{stuck, given, had, made}
use Rattle.rules.specs.step_rules.Closing.{Callee, callee_of, plain}
use Rattle.rules.specs.step_rules.Stores.{is_value, zero_of}
use Rattle.rules.specs.step_rules.Objects.{new_instance}
use Rattle.rules.specs.step_rules.Raising.{raise}
use Rattle.rules.specs.step_rules.Frames.{started, is_abstract_type}
use Rattle.rules.specs.step_rules.Dispatch.{path_into_box}
use Rattle.rules.specs.step_rules.CoreWords.{Gives, gives_value, before_call}
use Rattle.rules.specs.step_rules.CoreTypes.{typed_by}

-- ---- types of which no object is made

abbrev pub has_params : Option Head → Bool
has_params None = false
has_params (Some h) = not (nat_eq h.params 0)

abbrev pub is_open_in : Queries → TypeExpr-F TypeExpr → Bool
is_open_in q (TypeExpr-F.Def t) = has_params (q.head t.0)
is_open_in q _ = false

-- whether a type object's type is a generic definition without arguments
unfoldable pub is_open : Queries → TypeExpr → Bool
is_open q e = is_open_in q (out-TypeExpr e)

-- ---- objects

-- Runs a constructor on a new object, with `this` as the constructor takes it.
abbrev pub Runs : Type 0
Runs = ℕ → Value → State → Next

-- a box, into which the constructor of a value type takes a pointer, or an instance of a class
abbrev pub constructs_new : Queries → TypeExpr → State → Runs → Value → Next
constructs_new q e s run zero =
    if is_value q e
    then made (object.Boxed e zero) s (λ a t. run a (value.Pointer (path_into_box a e)) t)
    else made (new_instance q e) s (λ a t. run a (value.Object a) t)

-- Where the initializer is due, it is entered in the state `back`, so that the call comes again after it. A type without a zero value
-- stops the step.
abbrev pub constructs_by : Queries → TypeExpr → State → State → (Callee → Runs) → Callee → Next
constructs_by q e back s run c = had (zero_of q e) s (λ zero. started q false e back (λ t. constructs_new q e s (run c) zero))

abbrev pub maker_use : TypeExpr → ℕ → MethodUse
maker_use e m = record { method = record { 0 = m }; owner = e; args = [] }

-- a value type without such a constructor gives its zero value, and needs no initializer
abbrev pub creates_by : Queries → TypeExpr → State → State → (Value → Next) → (Callee → Runs) → Option ℕ → Next
creates_by q e back s give_zero run (Some m) = had (callee_of q (maker_use e m)) s (constructs_by q e back s run)
creates_by q e back s give_zero run None = if is_value q e then had (zero_of q e) s give_zero else raise q MissingMethodException s

-- Makes an object of a type, with what is given for a value type's zero value, and how a constructor runs.
unfoldable pub creates : Queries → TypeExpr → State → State → (Value → Next) → (Callee → Runs) → Next
creates q e back s give_zero run =
    if is_open q e then raise q ArgumentException s
    else if is_abstract_type q e then raise q MissingMethodException s
    else creates_by q e back s give_zero run (q.maker e)

-- ---- CreateInstance(Type): a value type's zero value is in a box

abbrev pub gives_box : TypeExpr → State → Gives → Value → Next
gives_box e s give zero = made (object.Boxed e zero) s (λ a t. gives_value (value.Object a) t give)

abbrev pub creates_for : Queries → State → Gives → (Callee → Runs) → Value → Next
creates_for q s give run value.Null = raise q ArgumentNullException s
creates_for q s give run v = given (typed_by s v) s (λ e. creates q e (before_call (v ∷ []) s) s (gives_box e s give) run)

unfoldable pub create_with : Queries → List Value → State → Gives → (Callee → Runs) → Next
create_with q (v ∷ []) s give run = creates_for q s give run v
create_with q _ s give run = stuck s

-- ---- CreateInstance<T>(), with its type arguments

unfoldable pub create_of_with : List TypeExpr → Queries → List Value → State → Gives → (Callee → Runs) → Next
create_of_with (e ∷ []) q [] s give run = let p = plain e in creates q p s s (λ zero. gives_value zero s give) run
create_of_with _ q _ s give run = stuck s
