-- Exceptions (I.12.4.2): the search for a handler over all frames, and the way there through finally and fault handlers. A step
-- that raises searches from its instruction, and from the call of each caller. An exception without a handler ends the run before
-- any handler runs.
use Rattle.std.specs.Prelude.{ℕ, suc, List, [], ◌∷◌, ◌++◌, take, nat_eq, map, Bool, true, false, ◌&&◌, ◌||◌, Option, Some, None, slice_get, if◌then◌else◌}
use Rattle.std.specs.Option.{option_and_then}
use Rattle.std.specs.List.{filter}
use Rattle.il_base.specs.declared.world_model.expr.TypeExpr.{TypeExpr}
use Rattle.il_base.specs.world_model.Exprs.{same_expr}
use Rattle.il_base.specs.declared.core_table.names.CoreName.{CoreName}
use Rattle.il_base.specs.declared.core_table.names.CoreName.TheVariants as name
use Rattle.il_base.specs.declared.cil_values.value.Value.{Value}
use Rattle.il_base.specs.declared.cil_values.value.Value.TheVariants as value
use Rattle.il_base.specs.declared.cil_values.resolved.Code.{Code}
use Rattle.il_base.specs.declared.cil_values.resolved.Clause.{Clause}
use Rattle.il_base.specs.declared.cil_values.resolved.ClauseKind.TheVariants.{Catch as catches, Finally as finally, Fault as fault}
use Rattle.rules.specs.step_rules.Queries.{Queries}
use Rattle.il_base.specs.declared.cil_values.state.State.{State}
use Rattle.il_base.specs.declared.cil_values.frame.Frame.{Frame}
use Rattle.il_base.specs.declared.cil_values.frame.Reason.{Reason}
use Rattle.il_base.specs.declared.cil_values.frame.Unwinding.{Unwinding}
use Rattle.il_base.specs.declared.cil_values.frame.Running.{Running}
use Rattle.il_base.specs.declared.cil_values.frame.Waits.{Waits}
use Rattle.il_base.specs.declared.cil_values.state.Init.{Init}
use Rattle.il_base.specs.declared.cil_values.state.Started.{Started}
use Rattle.il_base.specs.declared.cil_values.frame.Prefix.TheVariants.{None as none}
use Rattle.il_base.specs.declared.cil_values.frame.Reason.TheVariants.{Caught as caught, Unwinding as unwinding}
use Rattle.il_base.specs.declared.cil_values.frame.Waits.TheVariants.{Starts as starts, Opens as opens, Core as calls}
use Rattle.il_base.specs.declared.cil_values.core_call.CoreCall.{CoreCall}
use Rattle.il_base.specs.declared.cil_values.core_call.CoreCall.TheVariants as core
use Rattle.il_base.specs.declared.cil_values.state.Init.TheVariants.{Failed as failed}
use Rattle.rules.specs.step_rules.Next.{Next, went}
use Rattle.rules.specs.step_rules.Words.{Here, here_of, given, stopped, stuck, good, in_try, in_handler, made, object_at}
use Rattle.rules.specs.step_rules.Closing.{closed_slot}
use Rattle.rules.specs.step_rules.Objects.{is_a, threw, new_exception, wrapping}

-- ---- clauses

abbrev pub is_catch : Clause → Bool
is_catch c = elim c.kind [ catches ↦ true | finally ↦ false | fault ↦ false ]

abbrev pub is_finally : Clause → Bool
is_finally c = elim c.kind [ catches ↦ false | finally ↦ true | fault ↦ false ]

abbrev pub is_fault : Clause → Bool
is_fault c = elim c.kind [ catches ↦ false | finally ↦ false | fault ↦ true ]

-- the places, from n on, of the clauses that pass a test
abbrev pub add_if : Bool → ℕ → List ℕ → List ℕ
add_if true n ns = n ∷ ns
add_if false n ns = ns

unfoldable pub places_of : (Clause → Bool) → ℕ → List Clause → List ℕ
places_of test n [] = []
places_of test n (c ∷ cs) = add_if (test c) n (places_of test (suc n) cs)

-- ---- handlers that run

abbrev pub is_in : Option Clause → ℕ → Bool
is_in None at = false
is_in (Some c) at = in_handler c at

-- the running handlers that an offset lies in: a raise, a leave or an unwinding that goes out of a handler drops it
unfoldable pub still_running : Code → ℕ → List Running → List Running
still_running code at running = filter (λ (r : Running). is_in (slice_get code.clauses r.clause) at) running

abbrev pub running_at : Code → ℕ → ℕ → Reason → Frame → List Running
running_at code n at reason f = record { clause = n; reason = reason } ∷ still_running code at f.running

abbrev pub in_handler_of : Code → ℕ → ℕ → Reason → List Value → Frame → Frame
in_handler_of code n at reason stack f = record f { at = at; stack = stack; prefix = none; running = running_at code n at reason f }

-- the handler of a clause of the top frame begins: a catch with the exception on the stack, another with an empty stack
unfoldable pub handler_begins : Code → ℕ → Reason → List Value → State → Next
handler_begins code n reason stack s =
    given (slice_get code.clauses n) s (λ (c : Clause). went (record s { top = in_handler_of code n c.at reason stack s.top }) [])

-- ---- the way to the handler that was found

abbrev pub is_unwound : ℕ → Clause → Bool
is_unwound at c = in_try c at && (is_finally c || is_fault c)

-- the finally and fault clauses around an offset, the inner ones first
abbrev pub unwound_in : Code → ℕ → List ℕ
unwound_in code at = places_of (is_unwound at) 0 code.clauses

-- the finally and fault clauses around an offset that are within a catch clause
abbrev pub unwound_within : Code → ℕ → ℕ → List ℕ
unwound_within code at clause = places_of (is_unwound at) 0 (take clause code.clauses)

abbrev pub left_here : ℕ → ℕ → Frame → Option Here → List ℕ
left_here frame clause f None = []
left_here frame clause f (Some here) =
    if nat_eq f.number frame then unwound_within here.code f.at clause else unwound_in here.code f.at

-- the finally and fault clauses to run in a frame before the handler is reached, or the frame is left
unfoldable pub left_in : Queries → ℕ → ℕ → Frame → List ℕ
left_in q frame clause f = left_here frame clause f (here_of q f)

abbrev pub change_init : TypeExpr → Init → Started → Started
change_init e i x = if same_expr x.typ e then record x { init = i } else x

abbrev pub set_init : TypeExpr → Init → List Started → List Started
set_init e i inits = map (change_init e i) inits

-- the initializers after an exception leaves a frame: the one that waits for the frame has failed
abbrev pub failing : Waits → List ℕ → List Started → List Started
failing (starts e) (a ∷ later) inits = set_init e (failed a) inits
failing _ _ inits = inits

-- The exception of the core library that another becomes, as its inner one, where it leaves a frame: what leaves an initializer
-- (II.10.5.3), and what leaves a method that reflection calls.
abbrev pub wrapper_of : CoreCall → Option CoreName
wrapper_of core.Create = Some name.TargetInvocationException
wrapper_of core.CreateOf = Some name.TargetInvocationException
wrapper_of core.Invoke = Some name.TargetInvocationException
wrapper_of core.PropertyGet = Some name.TargetInvocationException
wrapper_of core.PropertySet = Some name.TargetInvocationException
wrapper_of _ = None

unfoldable pub wrapper : Waits → Option CoreName
wrapper (starts e) = Some name.TypeInitializationException
wrapper (opens e m) = Some name.TypeInitializationException
wrapper (calls k args) = wrapper_of k
wrapper _ = None

-- the exception in the next frame
abbrev pub further_by : Option CoreName → Unwinding → Unwinding
further_by None u = u
further_by (Some n) u = elim u.later [ [] ↦ u | a ∷ later ↦ record u { object = a; later = later } ]

abbrev pub further : Waits → Unwinding → Unwinding
further w u = further_by (wrapper w) u

abbrev pub outside : State → Unwinding → Frame → List Frame → State
outside s u f fs = record s { top = f; below = fs; inits = failing s.top.waits u.later s.inits }

abbrev pub outer : Queries → State → Unwinding → Frame → Unwinding
outer q s u f = record (further s.top.waits u) { left = left_in q u.frame u.clause f }

-- the next handler of the top frame: a finally or fault clause that is left, else the catch clause where the frame has it, else `out`
abbrev pub next_handler : Code → Unwinding → List ℕ → State → Next → Next
next_handler code u (n ∷ ns) s out = handler_begins code n (unwinding (record u { left = ns })) [] s
next_handler code u [] s out =
    if nat_eq s.top.number u.frame then handler_begins code u.clause (caught u.object) (value.Object u.object ∷ []) s else out

-- a frame without code, that of a member of the core library which reflection called, has no handlers
abbrev pub unwind_by : Unwinding → State → Next → Option Here → Next
unwind_by u s out None = out
unwind_by u s out (Some here) = next_handler here.code u u.left s out

abbrev pub unwind_here : Queries → Unwinding → State → Next → Next
unwind_here q u s out = unwind_by u s out (here_of q s.top)

-- unwinds frame by frame: a frame is left after its last handler
unfoldable pub unwind_to : Queries → Unwinding → State → List Frame → Next
unwind_to q u s [] = unwind_here q u s (stuck s)
unwind_to q u s (f ∷ fs) = unwind_here q u s (unwind_to q (outer q s u f) (outside s u f fs) fs)

abbrev pub unwind : Queries → Unwinding → State → Next
unwind q u s = unwind_to q u s s.below

-- ---- the search

-- the result of the search for a handler in a frame
pub data Found : Type 0 where
  nothing_found : Found
  -- a clause whose type has no meaning is looked at
  bad_clause : Found
  -- the clause that catches it
  by_clause : ℕ → Found

abbrev pub catches_by : Queries → State → ℕ → ℕ → Option TypeExpr → Found → Found
catches_by q s a n None rest = bad_clause
catches_by q s a n (Some e) rest = if is_a q e (object_at s a) then by_clause n else rest

abbrev pub caught_type : Queries → Here → Clause → Option TypeExpr
caught_type q here c = option_and_then (closed_slot q here.targs here.margs) (good c.caught)

-- the first catch clause, from the place n on, whose try block has the offset and whose type the exception is of
unfoldable pub clause_for : Queries → Here → State → ℕ → ℕ → ℕ → List Clause → Found
clause_for q here s a at n [] = nothing_found
clause_for q here s a at n (c ∷ cs) =
    let rest = clause_for q here s a at (suc n) cs in
    if is_catch c && in_try c at then catches_by q s a n (caught_type q here c) rest else rest

abbrev pub found_here : Queries → State → ℕ → Frame → Option Here → Found
found_here q s a f None = nothing_found
found_here q s a f (Some here) = clause_for q here s a f.at 0 here.code.clauses

unfoldable pub found_in : Queries → State → ℕ → Frame → Found
found_in q s a f = found_here q s a f (here_of q f)

-- the exception as it is outside of a frame
abbrev pub passed_on : Queries → Option CoreName → ℕ → List ℕ → State → (ℕ → List ℕ → State → Next) → Next
passed_on q None a later s f = f a later s
passed_on q (Some n) a later s f = made (wrapping q n a) s (λ b s. f b (later ++ b ∷ []) s)

abbrev pub unwinding_to : Queries → ℕ → List ℕ → State → Frame → ℕ → Unwinding
unwinding_to q first later s f n =
    record { object = first; later = later; frame = f.number; clause = n; left = left_in q f.number n s.top }

abbrev pub caught_or : Queries → ℕ → List ℕ → State → Frame → Found → Next → Next
caught_or q first later s f nothing_found out = out
caught_or q first later s f bad_clause out = stopped s
caught_or q first later s f (by_clause n) out = unwind q (unwinding_to q first later s f n) s

-- The search for a handler. `first` is the exception in the top frame, `a` the one that it has become in the frame f, `later` all
-- that it became on the way.
unfoldable pub search : Queries → ℕ → ℕ → List ℕ → State → Frame → List Frame → Next
search q first a later s f [] =
    caught_or q first later s f (found_in q s a f) (passed_on q (wrapper f.waits) a later s (λ b all s. threw q s (object_at s b)))
search q first a later s f (g ∷ fs) =
    caught_or q first later s f (found_in q s a f) (passed_on q (wrapper f.waits) a later s (λ b all s. search q first b all s g fs))

-- an exception is raised by the instruction of the top frame
unfoldable pub throw : Queries → ℕ → State → Next
throw q a s = search q a a [] s s.top s.below

-- a new exception of the core library is raised
unfoldable pub raise : Queries → CoreName → State → Next
raise q n s = made (new_exception q n) s (throw q)
