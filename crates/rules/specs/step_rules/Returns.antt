-- Returns (III.3.57): to the caller, which goes on after its call, or to what waits for the method's end.
use Rattle.std.specs.Prelude.{ℕ, ◌+◌, ℤ, pos, List, [], ◌∷◌, ◌++◌, length, Bool, not, ◌||◌, Option, Some, None, if◌then◌else◌}
use Rattle.std.specs.Option.{option_map, option_and_then}
use Rattle.std.specs.List.{list_any}
use Rattle.il_base.specs.declared.element.TheConstants.{STRING}
use Rattle.il_base.specs.declared.world_model.expr.TypeExpr.{TypeExpr}
use Rattle.il_base.specs.declared.world_model.expr.TypeExpr as expr
use Rattle.il_base.specs.declared.cil_values.value.Value.{Value}
use Rattle.il_base.specs.declared.cil_values.value.Value.TheVariants as value
use Rattle.il_base.specs.declared.cil_values.object.Obj.{Obj}
use Rattle.il_base.specs.declared.cil_values.object.Obj.TheVariants as object
use Rattle.il_base.specs.declared.cil_values.end.End.TheVariants.{Ended}
use Rattle.il_base.specs.declared.cil_values.resolved.Clause.{Clause}
use Rattle.il_base.specs.declared.cil_values.definition.Signature.{Signature}
use Rattle.rules.specs.step_rules.Queries.{Queries}
use Rattle.il_base.specs.declared.cil_values.state.State.{State}
use Rattle.il_base.specs.declared.cil_values.frame.Frame.{Frame}
use Rattle.il_base.specs.declared.cil_values.frame.Waits.{Waits}
use Rattle.rules.specs.step_rules.Next.{Next, went, over}
use Rattle.il_base.specs.declared.cil_values.frame.Waits.TheVariants as waits
use Rattle.il_base.specs.declared.cil_values.state.Init.TheVariants as init
use Rattle.rules.specs.step_rules.Words.{Form, Here, here_of, instruction_at, stuck, given, had, required, moved, may_go, good, in_try, in_handler, object_at}
use Rattle.rules.specs.step_rules.Closing.{Callee, callee_of, closed_return, is_void}
use Rattle.rules.specs.step_rules.Stores.{fits}
use Rattle.rules.specs.step_rules.Places.{boxed_in}
use Rattle.rules.specs.step_rules.Raising.{set_init}
use Rattle.rules.specs.step_rules.Frames.{frame_of, zero_locals}
use Rattle.rules.specs.step_rules.Core.{with_option}
use Rattle.rules.specs.step_rules.Calls.{pushed}

-- ---- what a method returns

abbrev pub in_block : ℕ → Clause → Bool
in_block at c = in_try c at || in_handler c at

-- the result of a method: nothing, or the one value that is left, as its return type keeps it
abbrev pub no_value : List Value → Option (Option Value)
no_value [] = Some None
no_value (v ∷ stack) = None

abbrev pub one_value : Queries → TypeExpr → List Value → Option (Option Value)
one_value q e (v ∷ []) = option_map (λ w. Some w) (fits q e v)
one_value q e _ = None

unfoldable pub returned : Queries → TypeExpr → List Value → Option (Option Value)
returned q e stack = if is_void e then no_value stack else one_value q e stack

-- the exit code of a run; 0 where the entry method returns nothing
abbrev pub exit_code : Option Value → ℤ
exit_code (Some (value.I4 n)) = n
exit_code _ = pos 0

-- ---- back to the caller

-- the state with the caller on top
abbrev pub back_in : State → Frame → List Frame → State
back_in s f fs = record s { top = f; below = fs }

-- the caller goes on after its call; where the way to the next instruction isn't allowed, `ret` is stuck
abbrev pub goes_back : Queries → State → State → List Value → List ℕ → Next
goes_back q s t stack bytes =
    given (here_of q t.top) s (λ here. given (instruction_at here.code t.top.at) s (λ i.
    required (may_go here.code i.at i.next) s (went (moved i.next stack t) bytes)))

-- the return to the caller, by what the caller waits for
abbrev pub back_by : Queries → State → State → Option Value → Waits → Next
back_by q s t v waits.Nothing = goes_back q s t (pushed v t.top.stack) []
back_by q s t v (waits.Makes a) = goes_back q s t (value.Object a ∷ t.top.stack) []
back_by q s t v (waits.MakesValue a) = given (option_and_then boxed_in (object_at s a)) s (λ w. goes_back q s t (w ∷ t.top.stack) [])
back_by q s t v (waits.Starts e) = went (record t { inits = set_init e init.Ended t.inits }) []
back_by q s t v (waits.Opens e m) = stuck s
back_by q s t v (waits.Core k args) = with_option k q args s (λ r result bytes. goes_back q s (back_in r t.top t.below) (pushed result t.top.stack) bytes) v

-- ---- the entry method begins

abbrev pub empty_array : TypeExpr → Obj
empty_array e = object.Array e []

abbrev pub entry_frame : Callee → List Value → List Value → State → State
entry_frame c args locals s =
    record s { top = frame_of s.entered c.called args locals waits.Nothing; below = []; entered = s.entered + 1 }

-- Main's array of strings is made as it begins (II.15.4.1.2)
abbrev pub entry_with : Callee → List Value → State → List TypeExpr → State
entry_with c locals s [] = entry_frame c [] locals s
entry_with c locals s (e ∷ es) =
    entry_frame c (value.Object (length s.heap) ∷ []) locals (record s { heap = s.heap ++ empty_array (expr.Prim STRING) ∷ [] })

unfoldable pub entry_begins : Callee → List Value → State → State
entry_begins c locals s = entry_with c locals s c.signature.params

-- ---- `ret`

abbrev pub opened : Queries → State → Callee → Next
opened q s c = given c.method.body s (λ body. had (option_and_then (zero_locals q c.called) (good body)) s (λ locals. went (entry_begins c locals s) []))

-- the last frame ends the run, but for the initializer of the entry's type, after which the entry begins
abbrev pub ends_by : Queries → State → Option Value → Waits → Next
ends_by q s v (waits.Opens e m) = had (callee_of q m) s (opened q (record s { inits = set_init e init.Ended s.inits }))
ends_by q s v _ = over (Ended (exit_code v))

abbrev pub back : Queries → State → List Frame → Option Value → Next
back q s [] v = ends_by q s v s.top.waits
back q s (f ∷ fs) v = back_by q s (back_in s f fs) v s.top.waits

abbrev pub returns : Queries → Here → State → Signature → Next
returns q here s sig =
    had (closed_return q here.targs here.margs sig.ret) s (λ e. given (returned q e s.top.stack) s (back q s s.below))

-- `ret` (III.3.57): in a try block or a handler it is stuck
unfoldable pub return : Form
return q here i s =
    required (not (list_any (in_block i.at) here.code.clauses)) s (given (good here.method.signature) s (returns q here s))
