-- What a frame runs.
use Rattle.std.proofs.Common.{◌≡◌, ℕ, Option, Some, None, refl, sym, ap, ◌∙◌}
use Rattle.std.specs.Option.{option_map, option_and_then}
use Rattle.il_base.specs.declared.world_model.known.Known.{Known}
use Rattle.il_base.specs.declared.world_model.known.Known.TheVariants.{Good, Bad}
use Rattle.il_base.specs.declared.cil_values.definition.Method.{Method}
use Rattle.il_base.specs.declared.cil_values.resolved.Code.{Code}
use Rattle.il_base.specs.declared.cil_values.resolved.Instruction.{Instruction}
use Rattle.il_base.specs.declared.cil_values.frame.Frame.{Frame}
use Rattle.il_base.specs.declared.cil_values.state.State.{State}
use Rattle.rules.specs.step_rules.Next.{Next}
use Rattle.rules.specs.step_rules.Queries.{Queries}
use Rattle.rules.specs.step_rules.Words.{Here, here_of, here_in, instruction_at, good, given}
use Rattle.machine_words.specs.cil_queries.Bodies.{code_of, instruction_of}
use Rattle.machine_calls.specs.cil_returns.Running.{running_of}

abbrev by_code : ℕ → Option Code → Option Instruction
by_code at code = option_and_then (λ (c : Code). instruction_at c at) code

abbrev by_here : ℕ → Option Here → Option Instruction
by_here at here = option_and_then (λ (h : Here). instruction_at h.code at) here

of_body : (f : Frame) (m : Method) (at : ℕ) (body : Option (Known Code)) → by_code at (option_and_then good body) ≡ by_here at (option_and_then (λ (b : Known Code). option_and_then (λ (c : Code). Some (here_in f m c)) (good b)) body)
of_body f m at None = refl
of_body f m at (Some (Good code)) = refl
of_body f m at (Some (Bad why)) = refl

of_method : (f : Frame) (at : ℕ) (found : Option Method) → by_code at (option_and_then code_of found) ≡ by_here at (option_and_then (λ (m : Method). option_and_then (λ (b : Known Code). option_and_then (λ (c : Code). Some (here_in f m c)) (good b)) m.body) found)
of_method f at None = refl
of_method f at (Some m) = of_body f m at m.body

-- the instruction of a frame's body
instruction_here : (q : Queries) (f : Frame) → instruction_of q f.method.method.0 f.at ≡ by_here f.at (here_of q f)
unfolding here_of
instruction_here q f = of_method f f.at (q.method f.method.method.0)

module _ (q : Queries) (f : Frame) where
  pub no_body : here_of q f ≡ None → running_of q f ≡ None
  unfolding running_of
  no_body is = rw is refl

  module _ (here : Here) (is : here_of q f ≡ Some here) where
    looked : running_of q f ≡ option_map (λ (i : Instruction). (here, i)) (instruction_of q f.method.method.0 f.at)
    unfolding running_of
    looked = rw (instruction_here q f, is) refl

    pub no_instruction : None ≡ instruction_of q f.method.method.0 f.at → running_of q f ≡ None
    no_instruction none = looked ∙ ap (option_map (λ (i : Instruction). (here, i))) (sym none)

    pub at_instruction : (i : Instruction) → Some i ≡ instruction_of q f.method.method.0 f.at → running_of q f ≡ Some (here, i)
    at_instruction i some = looked ∙ ap (option_map (λ (j : Instruction). (here, j))) (sym some)

by_option : (s : State) (k : Here → Instruction → Next) (here : Here) (found : Option Instruction) → given found s (k here) ≡ given {A = Here × Instruction} (option_map (λ (i : Instruction). (here, i)) found) s (λ p. k p.0 p.1)
by_option s k here None = refl
by_option s k here (Some i) = refl

of_here : (s : State) (k : Here → Instruction → Next) (at : ℕ) (found : Option Here) → given found s (λ here. given (instruction_at here.code at) s (k here)) ≡ given {A = Here × Instruction} (option_and_then (λ (here : Here). option_map (λ (i : Instruction). (here, i)) (instruction_at here.code at)) found) s (λ p. k p.0 p.1)
of_here s k at None = refl
of_here s k at (Some here) = by_option s k here (instruction_at here.code at)

-- both looks in one
pub given_running : (q : Queries) (f : Frame) (s : State) (k : Here → Instruction → Next) → given (here_of q f) s (λ here. given (instruction_at here.code f.at) s (k here)) ≡ given (running_of q f) s (λ p. k p.0 p.1)
unfolding running_of
given_running q f s k = of_here s k f.at (here_of q f)
