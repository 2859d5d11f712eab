-- What a member comes to, as `simple` has it for the member that was called.
use Rattle.std.proofs.Common.{◌≡◌, sym, ℕ, List}
use Rattle.std.specs.Prelude.{Result, Ok, Err, IfOk}
use Rattle.il_base.specs.declared.cil_values.value.Value.{Value}
use Rattle.il_base.specs.declared.cil_values.state.State.{State}
use Rattle.il_base.specs.declared.cil_values.core_call.CoreCall.{CoreCall}
use Rattle.rules.specs.step_rules.Queries.{Queries}
use Rattle.rules.specs.step_rules.CoreWords.{Gives}
use Rattle.rules.specs.step_rules.Core.{simple}
use Rattle.cil_core.specs.declared.cil_members.core_out.CoreOut.{CoreOut}
use Rattle.cil_core.specs.cil_members.Outs.{gives_by}

pub turned : (out : CoreOut) (s t : State) (bytes none : List ℕ) (q : Queries) (k called : CoreCall) (args : List Value) → k ≡ called → bytes ≡ none
    → ((q : Queries) (give : Gives) → gives_by out t none give ≡ simple called q args s give) → (give : Gives) → simple k q args s give ≡ gives_by out t bytes give
turned out s t bytes none q k called args e n h give = rw (e, n) (sym (h q give))

pub turned_ok : {E : Type 0} (r : Result CoreOut E) (s t : State) (bytes none : List ℕ) (q : Queries) (k called : CoreCall) (args : List Value) → k ≡ called → bytes ≡ none
    → IfOk r (λ out. (q : Queries) (give : Gives) → gives_by out t none give ≡ simple called q args s give) → IfOk r (λ out. (give : Gives) → simple k q args s give ≡ gives_by out t bytes give)
turned_ok (Err error) s t bytes none q k called args e n h = h
turned_ok (Ok out) s t bytes none q k called args e n h = turned out s t bytes none q k called args e n h
