-- Words that go on with an object, as the code answers them.
use Rattle.std.specs.Prelude.{ℕ, List, ◌≡◌, Option, Some, None}
use Rattle.il_base.specs.declared.cil_values.state.State.{State}
use Rattle.rules.specs.step_rules.Next.{Next}
use Rattle.rules.specs.step_rules.Words.{stopped}
use Rattle.rules.specs.step_rules.Objects.{with_text}

abbrev pub goes_on : Option ℕ → State → State → (ℕ → State → Next) → Next
goes_on None s t f = stopped s
goes_on (Some a) s t f = f a t

-- Whatever comes next, a word stops the run where the answer is None, and else goes on with its object and the state after it.
abbrev pub GoesOn : ((ℕ → State → Next) → Next) → State → Option ℕ → State → Type 0
GoesOn word s answer t = (f : ℕ → State → Next) → word f ≡ goes_on answer s t f

-- the object of a text that `ldstr` didn't give before
abbrev pub new_text : List ℕ → State → (ℕ → State → Next) → Next
new_text units s f = with_text units s f None
