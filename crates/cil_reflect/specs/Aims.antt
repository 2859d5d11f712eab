-- What the words of a call by reflection come to, as the code has them.
use Rattle.std.specs.Prelude.{ℕ, List, [], ◌++◌, Bool, true, false}
use Rattle.il_base.specs.declared.world_model.expr.TypeExpr.{TypeExpr}
use Rattle.il_base.specs.declared.world_model.expr.MethodUse.{MethodUse}
use Rattle.il_base.specs.declared.core_table.names.CoreName.TheVariants.{ArgumentException, InvalidOperationException, TargetException, TargetParameterCountException}
use Rattle.il_base.specs.declared.cil_values.value.Value.{Value}
use Rattle.il_base.specs.declared.cil_values.state.State.{State}
use Rattle.rules.specs.step_rules.Queries.{Queries}
use Rattle.rules.specs.step_rules.Next.{Next}
use Rattle.rules.specs.step_rules.Words.{stuck, stopped}
use Rattle.rules.specs.step_rules.Closing.{Callee}
use Rattle.rules.specs.step_rules.Raising.{raise}
use Rattle.rules.specs.step_rules.CoreWords.{before_call, caller_in}
use Rattle.rules.specs.step_rules.CoreInvoking.{Taken, took, unfit, zeroless}
use Rattle.machine_words.specs.cil_closing.Callees.{callee_by}
use Rattle.machine_words.specs.cil_words.Steps.{next_of}
use Rattle.machine_objects.specs.declared.cil_fields.statics.Ready.{Ready}
use Rattle.machine_objects.specs.declared.cil_fields.statics.Ready.TheVariants as ready
use Rattle.cil_reflect.specs.declared.targets.Aim.{Aim}
use Rattle.cil_reflect.specs.declared.targets.Aim.TheVariants as aim
use Rattle.cil_reflect.specs.declared.arguments.Passed.{Passed}
use Rattle.cil_reflect.specs.declared.arguments.Passed.TheVariants as passed
use Rattle.cil_reflect.specs.declared.arguments.Kept.{Kept}
use Rattle.cil_reflect.specs.declared.arguments.Kept.TheVariants as kept
use Rattle.cil_reflect.specs.declared.arguments.AllKept.{AllKept}
use Rattle.cil_reflect.specs.declared.arguments.AllKept.TheVariants as all
use Rattle.cil_reflect.specs.declared.invoking.Named.{Named}
use Rattle.cil_reflect.specs.declared.invoking.Named.TheVariants as named
use Rattle.cil_reflect.specs.declared.methods.Allowed.{Allowed}
use Rattle.cil_reflect.specs.declared.methods.Allowed.TheVariants as allowed

-- goes on with the target, or ends
abbrev pub aim_next : Aim → Queries → State → (ℕ → Next) → Next
aim_next (aim.At a) q s f = f a
aim_next aim.Wrong q s f = raise q TargetException s
aim_next aim.Stuck q s f = stuck s

-- goes on with the arguments, or ends
abbrev pub passed_next : Passed → Queries → State → (List Value → Next) → Next
passed_next (passed.Are vs) q s f = f vs
passed_next passed.Count q s f = raise q TargetParameterCountException s
passed_next passed.Unfit q s f = raise q ArgumentException s
passed_next passed.Stopped q s f = stopped s

-- goes on with the method, or ends
abbrev pub method_next : Allowed → Queries → State → (Callee → Next) → Next
method_next (allowed.Is c) q s f = f (callee_by c)
method_next allowed.Open q s f = raise q InvalidOperationException s
method_next allowed.Stopped q s f = stopped s
method_next allowed.Stuck q s f = stuck s

-- goes on with the method of a member object, or ends
abbrev pub named_next : Named → Queries → State → (MethodUse → Next) → Next
named_next (named.Is u) q s f = f u
named_next named.Missing q s f = raise q ArgumentException s
named_next named.Stuck q s f = stuck s

-- what an argument is for a parameter
abbrev pub taken_by : Kept → Taken Value
taken_by (kept.Is v) = took v
taken_by kept.Unfit = unfit
taken_by kept.Stopped = zeroless

abbrev pub all_taken_by : AllKept → Taken (List Value)
all_taken_by (all.Are vs) = took vs
all_taken_by all.Unfit = unfit
all_taken_by all.Stopped = zeroless

-- arguments that were taken after others
abbrev pub behind : List Value → Taken (List Value) → Taken (List Value)
behind first (took vs) = took (first ++ vs)
behind first unfit = unfit
behind first zeroless = zeroless

-- goes on with a static field that has a value, or ends
abbrev pub ready_next : Ready → State → (TypeExpr → State → Next) → Next
ready_next (ready.Is e) t f = f e t
ready_next (ready.Over out) t f = next_of out t []

-- The state in which a call comes again: before the call, or, for a member that reflection calls, before the call by reflection.
abbrev pub again : Bool → List Value → State → State
again false back s = before_call back s
again true back s = before_call back (caller_in s)
