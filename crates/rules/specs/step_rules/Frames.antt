-- Methods are entered (I.12.4.1), and initializers begin (II.10.5.3).
use Rattle.std.specs.Prelude.{ℕ, ◌+◌, List, [], ◌∷◌, ◌++◌, length, nat_lt, Bool, false, not, ◌||◌, Option, Some, None, find, if◌then◌else◌}
use Rattle.std.specs.Option.{option_map, option_and_then}
use Rattle.il_base.specs.declared.type_flags.TheConstants.{ABSTRACT, INTERFACE, BEFORE_FIELD_INIT}
use Rattle.il_base.specs.Flags.{has_flag}
use Rattle.il_base.specs.declared.world_model.expr.TypeExpr.{TypeExpr, out-TypeExpr}
use Rattle.il_base.specs.declared.world_model.expr.TypeExpr.TheOpen.{TypeExpr-F}
use Rattle.il_base.specs.declared.world_model.expr.MethodUse.{MethodUse}
use Rattle.il_base.specs.world_model.Exprs.{same_expr}
use Rattle.il_base.specs.declared.cil_values.value.Value.{Value}
use Rattle.il_base.specs.declared.cil_values.resolved.Code.{Code}
use Rattle.il_base.specs.declared.cil_values.definition.Head.{Head}
use Rattle.rules.specs.step_rules.Queries.{Queries}
use Rattle.il_base.specs.declared.cil_values.state.State.{State}
use Rattle.il_base.specs.declared.cil_values.frame.Frame.{Frame}
use Rattle.il_base.specs.declared.cil_values.frame.Waits.{Waits}
use Rattle.il_base.specs.declared.cil_values.state.Init.{Init}
use Rattle.il_base.specs.declared.cil_values.frame.Prefix.TheVariants.{None as none}
use Rattle.il_base.specs.declared.cil_values.frame.Waits.TheVariants.{Starts as starts}
use Rattle.il_base.specs.declared.cil_values.state.Init.TheVariants.{Begun as begun, Ended as ended, Failed as failed}
use Rattle.rules.specs.step_rules.Next.{Next, went}
use Rattle.rules.specs.step_rules.Words.{given, had, known, within, good, args_of}
use Rattle.rules.specs.step_rules.Closing.{Callee, callee_of, closed_slot, all_of}
use Rattle.rules.specs.step_rules.Stores.{zero_of}
use Rattle.rules.specs.step_rules.Raising.{throw}

-- ---- frames

-- the most frames at once
abbrev pub frame_limit : ℕ
frame_limit = 65536

abbrev pub zero_local : Queries → MethodUse → TypeExpr → Option Value
zero_local q u e = option_and_then (zero_of q) (closed_slot q (args_of u.owner) u.args e)

-- the initial values of the locals; None where one has no meaning or no zero value
unfoldable pub zero_locals : Queries → MethodUse → Code → Option (List Value)
zero_locals q u code = option_and_then (all_of (zero_local q u)) (good code.locals)

-- a frame as its method begins
abbrev pub frame_of : ℕ → MethodUse → List Value → List Value → Waits → Frame
frame_of n u args locals waits =
    record { number = n; method = u; args = args; locals = locals; stack = []; at = 0; prefix = none; running = []; waits = waits }

abbrev pub entered_with : Callee → List Value → List Value → Waits → State → State
entered_with c args locals waits s =
    record s { top = frame_of s.entered c.called args locals waits; below = s.top ∷ s.below; entered = s.entered + 1 }

abbrev pub has_room : State → Bool
has_room s = nat_lt (length s.below + 1) frame_limit

-- a method is entered with these arguments, as its slots keep them; the top frame waits
unfoldable pub enter : Queries → Callee → List Value → Waits → State → Next
enter q c args waits s =
    given c.method.body s (λ body. known body s (λ code. had (zero_locals q c.called code) s (λ locals.
    within (has_room s) s (went (entered_with c args locals waits s) []))))

-- ---- initializers

abbrev pub definition_in : TypeExpr-F TypeExpr → Option ℕ
definition_in (TypeExpr-F.Def t) = Some t.0
definition_in (TypeExpr-F.Inst t args) = Some t.0
definition_in _ = None

-- the definition that a type is of, alone or with arguments
unfoldable pub definition_of : TypeExpr → Option ℕ
definition_of e = definition_in (out-TypeExpr e)

unfoldable pub head_of : Queries → TypeExpr → Option Head
head_of q e = option_and_then q.head (definition_of e)

abbrev pub head_has : ℕ → Option Head → Bool
head_has flag None = false
head_has flag (Some h) = has_flag h.flags flag

-- whether no object is of exactly this type (II.10.1.4)
abbrev pub is_abstract_type : Queries → TypeExpr → Bool
is_abstract_type q e = let h = head_of q e in head_has ABSTRACT h || head_has INTERFACE h

-- whether an access begins a type's initializer: with beforefieldinit only an access to a static field does
abbrev pub begins_by : Queries → Bool → TypeExpr → Bool
begins_by q by_field e = by_field || not (head_has BEFORE_FIELD_INIT (head_of q e))

abbrev pub initializer_use : TypeExpr → ℕ → MethodUse
initializer_use e m = record { method = record { 0 = m }; owner = e; args = [] }

-- the initializer that an access to a type begins
unfoldable pub initializer : Queries → Bool → TypeExpr → Option MethodUse
initializer q by_field e =
    if begins_by q by_field e then option_map (initializer_use e) (option_and_then q.starts (definition_of e)) else None

unfoldable pub init_of : State → TypeExpr → Option Init
init_of s e = option_map (λ x. x.init) (find (λ x. same_expr x.typ e) s.inits)

abbrev pub with_init : TypeExpr → Init → State → State
with_init e i s = record s { inits = s.inits ++ record { typ = e; init = i } ∷ [] }

-- an access goes on while the initializer runs and after it; where the initializer failed, its exception is raised again
abbrev pub begin_or : Queries → TypeExpr → MethodUse → State → (State → Next) → Option Init → Next
begin_or q e u s f (Some begun) = f s
begin_or q e u s f (Some ended) = f s
begin_or q e u s f (Some (failed a)) = throw q a s
begin_or q e u s f None = had (callee_of q u) s (λ c. enter q c [] (starts e) (with_init e begun s))

abbrev pub started_by : Queries → TypeExpr → State → (State → Next) → Option MethodUse → Next
started_by q e s f None = f s
started_by q e s f (Some u) = begin_or q e u s f (init_of s e)

-- An access to a closed type, to a static field of it or another one. Where the initializer is due, it is entered, and the
-- instruction runs again after it.
unfoldable pub started : Queries → Bool → TypeExpr → State → (State → Next) → Next
started q by_field e s f = started_by q e s f (initializer q by_field e)
