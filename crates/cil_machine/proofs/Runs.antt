-- Steps that print nothing, many at once.
use Rattle.std.proofs.Common.{◌≡◌, ℕ, suc, ◌+◌, [], Option, Some, refl, sym, ap, subst, ◌∙◌, arith}
use Rattle.std.specs.Option.{option_and_then}
use Rattle.il_base.specs.declared.world_model.expr.MethodUse.{MethodUse}
use Rattle.il_base.specs.declared.cil_values.state.State.{State}
use Rattle.il_base.specs.declared.cil_values.frame.Frame.{Frame}
use Rattle.il_base.specs.declared.cil_values.definition.Method.{Method}
use Rattle.il_base.specs.declared.cil_values.resolved.Code.{Code}
use Rattle.il_base.specs.declared.cil_values.resolved.Instruction.{Instruction}
use Rattle.rules.specs.step_rules.Queries.{Queries}
use Rattle.rules.specs.step_rules.Next.{Next, went}
use Rattle.rules.specs.step_rules.Words.{Here, here_of, here_in, good}
use Rattle.rules.specs.step_rules.Step.{execute, step}
use Rattle.rules.specs.step_rules.Run.{after, run}
use Rattle.machine_words.specs.cil_queries.Bodies.{instruction_of}
use Rattle.machine_calls.proofs.lemmas.cil_returns.RunningFrames.{at_instruction}
use Rattle.cil_machine.proofs.Steps.{step_at}

-- the body of another frame of the same method
abbrev here_by_method : Queries → Frame → MethodUse → Option Here
here_by_method q f u =
    option_and_then (λ m. option_and_then (λ body. option_and_then (λ code. Some (here_in (record f { method = u }) m code)) (good body)) m.body) (q.method u.method.0)

same_body : (q : Queries) (f g : Frame) (m : Method) (code : Code) → g.method ≡ f.method → here_of q f ≡ Some (here_in f m code) → here_of q g ≡ Some (here_in g m code)
unfolding here_of
same_body q f g m code e is =
    subst (λ (u : MethodUse). here_by_method q g u ≡ Some (here_in (record g { method = u }) m code)) (sym e) is

-- a run of some steps more from the first state is one from where these lead
pub record Leads (q : Queries) (made : ℕ) (first last : State) (m : Method) (code : Code) : Type 0 where
  pub runs : (n : ℕ) → run q (made + n) first ≡ run q n last
  pub body : here_of q last.top ≡ Some (here_in last.top m code)

pub leads_nowhere : (q : Queries) (s : State) (m : Method) (code : Code) → here_of q s.top ≡ Some (here_in s.top m code) → Leads q 0 s s m code
leads_nowhere q s m code is = record { runs = λ n. let none : 0 + n ≡ n = omega arith in rw none refl; body = is }

module _ (q : Queries) (made : ℕ) (first s t : State) (m : Method) (code : Code) (i : Instruction) (leads : Leads q made first s m code) (there : Some i ≡ instruction_of q s.top.method.method.0 s.top.at) where
  next_is : step q s ≡ execute q (here_in s.top m code) i s
  next_is = sym (step_at q s (here_in s.top m code) i (at_instruction q s.top (here_in s.top m code) leads.body i there))

  run_on : (n : ℕ) → execute q (here_in s.top m code) i s ≡ went t [] → run q (suc n) s ≡ run q n t
  unfolding run
  run_on n does = ap (λ (o : Next). after o (run q n)) (next_is ∙ does)

  pub leads_on : (execute q (here_in s.top m code) i s ≡ went t []) × (t.top.method ≡ s.top.method) → Leads q (made + 1) first t m code
  leads_on h = record {
    runs = λ n. let further : made + 1 + n ≡ made + suc n = omega arith in rw further (leads.runs (suc n) ∙ run_on n h.0);
    body = same_body q s.top t.top m code h.1 leads.body;
  }

pub stays : (q : Queries) (made : ℕ) (first s t : State) (m : Method) (code : Code) → Leads q made first s m code → t ≡ s → (n : ℕ) → run q (made + n) first ≡ run q n t
stays q made first s t m code leads same n = leads.runs n ∙ ap (run q n) (sym same)
