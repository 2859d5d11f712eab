-- What an instruction of a form does.
use Rattle.std.proofs.Common.{◌≡◌, ℕ, List, [], sym, ap, ◌∙◌}
use Rattle.il_base.specs.declared.body as body
use Rattle.il_base.specs.declared.cil_values.state.State.{State}
use Rattle.il_base.specs.declared.cil_values.resolved.Instruction.{Instruction}
use Rattle.rules.specs.step_rules.Queries.{Queries}
use Rattle.rules.specs.step_rules.Words.{Here}
use Rattle.rules.specs.step_rules.Step.{effect, execute}
use Rattle.machine_words.specs.declared.cil_words.step_out.StepOut.{StepOut}
use Rattle.machine_words.specs.cil_words.Steps.{next_of}

pub by_form : (q : Queries) (here : Here) (i : Instruction) (s t : State) (out : StepOut) (bytes : List ℕ) (f : body.Form.Form) → bytes ≡ [] → i.form ≡ f → next_of out t [] ≡ effect f q here i s → next_of out t bytes ≡ execute q here i s
unfolding execute
by_form q here i s t out bytes f none is does = rw none (does ∙ ap (λ (g : body.Form.Form). effect g q here i s) (sym is))
