-- Whole runs from an entry point (II.15.4.1.2): the bytes printed within n steps, and the end of the run, if it has one.
use Rattle.std.specs.Prelude.{ℕ, zero, suc, nat_eq, List, [], ◌∷◌, ◌++◌, Bool, true, false, not, ◌&&◌, ◌||◌, Option, Some, None}
use Rattle.il_base.specs.declared.element.TheConstants.{I4, STRING}
use Rattle.il_base.specs.declared.method_flags.TheConstants.{STATIC}
use Rattle.il_base.specs.Flags.{has_flag}
use Rattle.il_base.specs.declared.world_model.known.Known.{Known}
use Rattle.il_base.specs.declared.world_model.known.Known.TheVariants.{Good, Bad}
use Rattle.il_base.specs.declared.world_model.expr.TypeExpr.{TypeExpr}
use Rattle.il_base.specs.declared.world_model.expr.TypeExpr as expr
use Rattle.il_base.specs.declared.world_model.expr.MethodUse.{MethodUse}
use Rattle.il_base.specs.world_model.Exprs.{same_expr}
use Rattle.il_base.specs.declared.cil_values.end.End.{End}
use Rattle.il_base.specs.declared.cil_values.end.End.TheVariants.{Stopped, Stuck}
use Rattle.il_base.specs.declared.cil_values.value.Value.{Value}
use Rattle.il_base.specs.declared.cil_values.definition.Method.{Method}
use Rattle.il_base.specs.declared.cil_values.definition.Signature.{Signature}
use Rattle.il_base.specs.declared.cil_values.resolved.Code.{Code}
use Rattle.rules.specs.step_rules.Queries.{Queries}
use Rattle.il_base.specs.declared.cil_values.state.State.{State}
use Rattle.il_base.specs.declared.cil_values.frame.Waits.TheVariants.{Nothing as nothing, Opens as opens}
use Rattle.il_base.specs.declared.cil_values.state.Init.TheVariants.{Begun as begun}
use Rattle.rules.specs.step_rules.Next.{Next, went, over}
use Rattle.rules.specs.step_rules.Closing.{Callee, callee_of, takes, is_void}
use Rattle.rules.specs.step_rules.Frames.{frame_of, zero_locals, initializer, with_init}
use Rattle.rules.specs.step_rules.Input.{decoded}
use Rattle.rules.specs.step_rules.Returns.{entry_begins}
use Rattle.rules.specs.step_rules.Step.{step}

-- ---- n steps

-- the bytes printed, and the end; None is a run that goes on
pub record Outcome : Type 0 where
  pub output : List ℕ
  pub end : Option End

abbrev pub printed_before : List ℕ → Outcome → Outcome
printed_before bytes o = record { output = bytes ++ o.output; end = o.end }

abbrev pub after : Next → (State → Outcome) → Outcome
after (went s bytes) f = printed_before bytes (f s)
after (over e) f = record { output = []; end = Some e }

-- n steps from a state
unfoldable pub run : Queries → ℕ → State → Outcome
run q zero s = record { output = []; end = None }
run q (suc n) s = after (step q s) (run q n)

-- ---- the entry point

-- how a run begins, or the end of its first step
pub data Beginning : Type 0 where
  begins : State → Beginning
  ends : End → Beginning

-- an entry without a meaning, or without the form of an entry point, ends the run at its offset 0
abbrev pub stopped_at : ℕ → Beginning
stopped_at m = ends (Stopped (record { 0 = m }) 0)

abbrev pub stuck_at : ℕ → Beginning
stuck_at m = ends (Stuck (record { 0 = m }) 0)

abbrev pub or_stopped : {A : Type 0} → Option A → ℕ → (A → Beginning) → Beginning
or_stopped None m f = stopped_at m
or_stopped (Some x) m f = f x

abbrev pub good_or_stopped : {A : Type 0} → Known A → ℕ → (A → Beginning) → Beginning
good_or_stopped (Good x) m f = f x
good_or_stopped (Bad why) m f = stopped_at m

abbrev pub stopped_unless : Bool → ℕ → Beginning → Beginning
stopped_unless true m next = next
stopped_unless false m next = stopped_at m

abbrev pub stuck_unless : Bool → ℕ → Beginning → Beginning
stuck_unless true m next = next
stuck_unless false m next = stuck_at m

-- the form of an entry point: no parameter or one `string[]`, and nothing or an int32 in return
abbrev pub is_strings : TypeExpr → Bool
is_strings e = same_expr e (expr.Array (expr.Prim STRING))

abbrev pub are_entry_params : List TypeExpr → Bool
are_entry_params [] = true
are_entry_params (e ∷ []) = is_strings e
are_entry_params (e ∷ d ∷ es) = false

abbrev pub is_entry_return : TypeExpr → Bool
is_entry_return e = is_void e || same_expr e (expr.Prim I4)

abbrev pub is_entry_signature : Signature → Bool
is_entry_signature sig = not sig.this && are_entry_params sig.params && is_entry_return sig.ret

abbrev pub is_entry : Callee → Bool
is_entry c = has_flag c.method.flags STATIC && is_entry_signature c.signature

-- a state with an empty heap and no type begun; its frame is replaced by the first that is entered
abbrev pub blank_state : Callee → List ℕ → State
blank_state c input =
    record { heap = []; statics = []; inits = []; texts = []; types = []; top = frame_of 0 c.called [] [] nothing; below = []; entered = 0; input = input }

-- the initializer of the entry's type is the first frame: nobody catches what leaves it, and no step is spent on it
abbrev pub initializer_frame : TypeExpr → MethodUse → Callee → List Value → State → State
initializer_frame owner entry c locals s = record s { top = frame_of 0 c.called [] locals (opens owner entry); entered = 1 }

abbrev pub with_initializer : Queries → ℕ → Callee → State → Callee → Beginning
with_initializer q m entry s c =
    elim c.method.body [
      | None ↦ stuck_at m
      | Some body ↦ good_or_stopped body m (λ code. or_stopped (zero_locals q c.called code) m (λ locals.
          begins (initializer_frame entry.called.owner entry.called c locals (with_init entry.called.owner begun s))))
    ]

abbrev pub begins_by : Queries → ℕ → Callee → List Value → State → Option MethodUse → Beginning
begins_by q m c locals s None = begins (entry_begins c locals s)
begins_by q m c locals s (Some u) = or_stopped (callee_of q u) m (with_initializer q m c s)

abbrev pub begins_with : Queries → ℕ → List ℕ → Callee → List Value → Beginning
begins_with q m input c locals =
    stuck_unless (is_entry c) m (begins_by q m c locals (blank_state c input) (initializer q false c.called.owner))

abbrev pub entry_use : Method → ℕ → MethodUse
entry_use f m = record { method = record { 0 = m }; owner = expr.Def (record { 0 = f.owner }); args = [] }

-- the beginning of a run at an entry method, which isn't generic, with its locals
abbrev pub begins_code : Queries → ℕ → List ℕ → Method → Code → Beginning
begins_code q m input f code =
    or_stopped (callee_of q (entry_use f m)) m (λ c. or_stopped (zero_locals q c.called code) m (begins_with q m input c))

abbrev pub begins_body : Queries → ℕ → List ℕ → Method → Signature → Option (Known Code) → Beginning
begins_body q m input f sig None = stuck_at m
begins_body q m input f sig (Some body) = good_or_stopped body m (λ code. good_or_stopped code.locals m (λ types.
    stuck_unless (nat_eq sig.own 0) m (begins_code q m input f code)))

abbrev pub begins_method : Queries → ℕ → List ℕ → Method → Beginning
begins_method q m input f =
    good_or_stopped f.signature m (λ sig. stopped_unless (takes (q.head f.owner) 0) m (begins_body q m input f sig f.body))

-- The beginning of a run. An entry in no type's run and bad signatures, bodies, locals and types are answered before a wrong form.
unfoldable pub beginning : Queries → ℕ → List ℕ → Beginning
beginning q m bytes = or_stopped (q.method m) m (begins_method q m (decoded bytes))

-- ---- whole runs

abbrev pub run_begun : Queries → ℕ → Beginning → Outcome
run_begun q n (begins s) = run q (suc n) s
run_begun q n (ends e) = record { output = []; end = Some e }

-- n steps from the entry, a method by its place in the world, with the bytes of the input
unfoldable pub run_from : Queries → ℕ → List ℕ → ℕ → Outcome
run_from q m bytes zero = record { output = []; end = None }
run_from q m bytes (suc n) = run_begun q n (beginning q m bytes)
