-- A static field with another value, whatever is on the evaluation stack.
use Rattle.std.proofs.Common.{◌≡◌, ◌∙◌, sym, ap, ℕ, List}
use Rattle.il_base.specs.declared.world_model.expr.TypeExpr.{TypeExpr}
use Rattle.il_base.specs.declared.cil_values.value.Value.{Value}
use Rattle.il_base.specs.declared.cil_values.resolved.Instruction.{Instruction}
use Rattle.il_base.specs.declared.cil_values.state.State.{State}
use Rattle.rules.specs.step_rules.Words.{goes}
use Rattle.rules.specs.step_rules.Places.{with_global}
use Rattle.machine_words.specs.declared.cil_words.body.Body.{Body}
use Rattle.machine_words.specs.cil_words.Steps.{here_by}
use Rattle.machine_numbers.specs.cil_pointers.Reaching.{with_stack}
use Rattle.machine_numbers.proofs.lemmas.cil_pointers.AnyStack.{goes_apart}

pub kept : (b : Body) (i : Instruction) (s t : State) (field : ℕ) (owner : TypeExpr) (w : Value) (vs : List Value) → t ≡ with_global field owner w s → goes (here_by b t) i t.top.stack t ≡ goes (here_by b s) i s.top.stack (with_global field owner w (with_stack vs s))
unfolding with_global
kept b i s t field owner w vs e =
    ap (λ (x : State). goes (here_by b x) i x.top.stack x) e ∙ sym (goes_apart (here_by b s) i s.top.stack (with_global field owner w s) vs)
