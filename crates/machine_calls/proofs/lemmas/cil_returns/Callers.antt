-- A caller goes on after its call.
use Rattle.std.proofs.Common.{◌≡◌, ℕ, Bool, true, false, List, Option, Some, None, refl, sym, ap, ◌∙◌}
use Rattle.il_base.specs.declared.cil_values.value.Value.{Value}
use Rattle.il_base.specs.declared.cil_values.frame.Frame.{Frame}
use Rattle.il_base.specs.declared.cil_values.state.State.{State}
use Rattle.il_base.specs.declared.cil_values.resolved.Instruction.{Instruction}
use Rattle.rules.specs.step_rules.Next.{Next, went}
use Rattle.rules.specs.step_rules.Queries.{Queries}
use Rattle.rules.specs.step_rules.Words.{Here, given, here_of, required, stuck, moved, may_go}
use Rattle.rules.specs.step_rules.Calls.{pushed}
use Rattle.rules.specs.step_rules.Returns.{goes_back}
use Rattle.machine_calls.specs.cil_returns.Running.{running_of}
use Rattle.machine_calls.proofs.lemmas.cil_returns.RunningFrames.{given_running}

module _ (q : Queries) (s t : State) (stack : List Value) (bytes : List ℕ) where
  abbrev after : Here × Instruction → Next
  after p = required (may_go p.0.code p.1.at p.1.next) s (went (moved p.1.next stack t) bytes)

  looked : goes_back q s t stack bytes ≡ given (running_of q t.top) s after
  looked = given_running q t.top s (λ here i. required (may_go here.code i.at i.next) s (went (moved i.next stack t) bytes))

  pub back_nowhere : running_of q t.top ≡ None → goes_back q s t stack bytes ≡ stuck s
  back_nowhere none = looked ∙ ap (λ (o : Option (Here × Instruction)). given o s after) none

  pub back_barred : (here : Here) (i : Instruction) → running_of q t.top ≡ Some (here, i) → may_go here.code i.at i.next ≡ false → goes_back q s t stack bytes ≡ stuck s
  back_barred here i some barred = looked ∙ ap (λ (o : Option (Here × Instruction)). given o s after) some ∙ ap (λ (b : Bool). required b s (went (moved i.next stack t) bytes)) barred

  pub back_goes : (here : Here) (i : Instruction) → running_of q t.top ≡ Some (here, i) → may_go here.code i.at i.next ≡ true → goes_back q s t stack bytes ≡ went (moved i.next stack t) bytes
  back_goes here i some may = looked ∙ ap (λ (o : Option (Here × Instruction)). given o s after) some ∙ ap (λ (b : Bool). required b s (went (moved i.next stack t) bytes)) may

-- the stack that the caller has is of no account
other_stack : (q : Queries) (s t : State) (stack : List Value) (bytes : List ℕ) → goes_back q s (record t { top = record t.top { stack = stack } }) stack bytes ≡ goes_back q s t stack bytes
unfolding here_of
other_stack q s t stack bytes = refl

-- a caller that was put on top, and then given a value
pub back_with : (q : Queries) (s st t : State) (f : Frame) (v : Option Value) (stack : List Value) (bytes : List ℕ) (next : Next) → t ≡ record st { top = f } → stack ≡ pushed v t.top.stack → goes_back q s (record t { top = record t.top { stack = stack } }) stack bytes ≡ next → next ≡ goes_back q s (record st { top = f }) (pushed v f.stack) bytes
back_with q s st t f v stack bytes next on_top is came =
    sym came ∙ other_stack q s t stack bytes ∙ ap (λ xs. goes_back q s t xs bytes) is ∙ ap (λ (u : State). goes_back q s u (pushed v u.top.stack) bytes) on_top
