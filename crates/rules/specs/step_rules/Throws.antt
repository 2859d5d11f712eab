-- Instructions of exceptions (III.3.35, III.3.46, III.4.24, III.4.31).
use Rattle.std.specs.Prelude.{ℕ, suc, ◌-◌, List, [], ◌∷◌, nat_eq, nat_lt, ◌==◌, Bool, true, not, ◌&&◌, Option, Some, None, find, if◌then◌else◌}
use Rattle.std.specs.Option.{option_map}
use Rattle.std.specs.List.{list_all}
use Rattle.il_base.specs.declared.opcode.TheConstants.{THROW}
use Rattle.il_base.specs.declared.core_table.names.CoreName.TheVariants.{Exception, NullReferenceException}
use Rattle.il_base.specs.declared.cil_values.value.Value.{Value}
use Rattle.il_base.specs.declared.cil_values.value.Value.TheVariants as value
use Rattle.il_base.specs.declared.cil_values.resolved.Code.{Code}
use Rattle.il_base.specs.declared.cil_values.resolved.Clause.{Clause}
use Rattle.il_base.specs.declared.cil_values.resolved.Use.TheVariants.{Target as target}
use Rattle.rules.specs.step_rules.Queries.{Queries}
use Rattle.il_base.specs.declared.cil_values.state.State.{State}
use Rattle.il_base.specs.declared.cil_values.frame.Frame.{Frame}
use Rattle.il_base.specs.declared.cil_values.frame.Reason.{Reason}
use Rattle.il_base.specs.declared.cil_values.frame.Running.{Running}
use Rattle.il_base.specs.declared.cil_values.frame.Prefix.TheVariants.{None as none}
use Rattle.il_base.specs.declared.cil_values.frame.Reason.TheVariants.{Caught as caught, Leaving as leaving, Unwinding as unwinding}
use Rattle.rules.specs.step_rules.Next.{Next, went}
use Rattle.rules.specs.step_rules.Words.{Form, Here, stuck, given, required, popped, in_try, in_handler, implies, enters_no_handler, object_at}
use Rattle.rules.specs.step_rules.Objects.{core_type, is_a}
use Rattle.rules.specs.step_rules.Raising.{is_catch, is_finally, places_of, still_running, handler_begins, unwind, throw, raise}

-- ---- the innermost handler that an offset lies in

-- a clause with its place
pub record Placed : Type 0 where
  pub place : ℕ
  pub clause : Clause

abbrev pub length_of : Clause → ℕ
length_of c = c.end - c.at

abbrev pub is_shorter : Clause → Option Placed → Bool
is_shorter c None = true
is_shorter c (Some best) = nat_lt (length_of c) (length_of best.clause)

abbrev pub better : ℕ → ℕ → Clause → Option Placed → Option Placed
better at n c best = if in_handler c at && is_shorter c best then Some (record { place = n; clause = c }) else best

-- handlers lie in each other or apart, so the innermost is the shortest
unfoldable pub innermost_from : ℕ → Option Placed → ℕ → List Clause → Option Placed
innermost_from at best n [] = best
innermost_from at best n (c ∷ cs) = innermost_from at (better at n c best) (suc n) cs

abbrev pub innermost : Code → ℕ → Option Placed
innermost code at = innermost_from at None 0 code.clauses

-- what entered the handler of a clause; None where it isn't among the running ones
unfoldable pub reason_of : ℕ → List Running → Option Reason
reason_of n running = option_map (λ r. r.reason) (find (λ r. nat_eq r.clause n) running)

-- ---- `throw` and `rethrow`

abbrev pub throws : Queries → State → Value → Next
throws q s value.Null = raise q NullReferenceException s
throws q s (value.Object a) = required (is_a q (core_type q Exception) (object_at s a)) s (throw q a s)
throws q s _ = stuck s

abbrev pub throws_again : Queries → State → Reason → Next
throws_again q s (caught a) = throw q a s
throws_again q s _ = stuck s

-- the exception of the innermost handler, which is a catch
abbrev pub rethrow : Queries → Here → State → Next
rethrow q here s = given (innermost here.code s.top.at) s (λ p. given (reason_of p.place s.top.running) s (throws_again q s))

unfoldable pub throw_form : Form
throw_form q here i s = if i.opcode == THROW then popped s.top.stack s (λ v stack. throws q s v) else rethrow q here s

-- ---- `leave`

abbrev pub may_leave_by : ℕ → ℕ → Clause → Bool
may_leave_by at to c = implies (in_handler c at && not (is_catch c)) (in_handler c to) && enters_no_handler c at to

-- not out of a finally or fault handler, and into no handler
unfoldable pub may_leave : Code → ℕ → ℕ → Bool
may_leave code at to = list_all (may_leave_by at to) code.clauses

abbrev pub is_crossed : ℕ → ℕ → Clause → Bool
is_crossed at to c = is_finally c && in_try c at && not (in_try c to)

-- the finally clauses that are crossed, the inner ones first
unfoldable pub crossed : Code → ℕ → ℕ → List ℕ
crossed code at to = places_of (is_crossed at to) 0 code.clauses

abbrev pub left_for : Code → ℕ → Frame → Frame
left_for code to f = record f { at = to; stack = []; prefix = none; running = still_running code to f.running }

-- a `leave` through these finally handlers, one in a step, to the target
unfoldable pub leave_through : Code → List ℕ → ℕ → State → Next
leave_through code [] to s = went (record s { top = left_for code to s.top }) []
leave_through code (n ∷ ns) to s = handler_begins code n (leaving ns to) [] s

abbrev pub leaves : Here → State → ℕ → Next
leaves here s to = required (may_leave here.code s.top.at to) s (leave_through here.code (crossed here.code s.top.at to) to s)

unfoldable pub leave : Form
leave q here i s = elim i.operand [ target to ↦ leaves here s to | _ ↦ stuck s ]

-- ---- `endfinally`

-- goes on with what entered the handler
abbrev pub goes_on : Queries → Code → State → Reason → Next
goes_on q code s (leaving ns to) = leave_through code ns to s
goes_on q code s (unwinding u) = unwind q u s
goes_on q code s (caught a) = stuck s

unfoldable pub end_finally : Form
end_finally q here i s =
    given (innermost here.code s.top.at) s (λ p. given (reason_of p.place s.top.running) s (goes_on q here.code s))
