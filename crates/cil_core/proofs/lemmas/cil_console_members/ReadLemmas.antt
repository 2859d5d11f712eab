-- A line that is read is a new string.
use Rattle.std.proofs.Common.{◌≡◌, ◌∙◌, refl, sym, ap, ℕ, ◌<◌, List, [], ◌∷◌, length, arith}
use Rattle.std.specs.Prelude.{Result, Ok, Err, IfOk}
use Rattle.il_base.specs.declared.cil_values.value.Value.{Value}
use Rattle.il_base.specs.declared.cil_values.state.State.{State}
use Rattle.rules.specs.step_rules.Queries.{Queries}
use Rattle.rules.specs.step_rules.CoreWords.{Gives, gives_text}
use Rattle.rules.specs.step_rules.CoreConsole.{Line, line_from, line_of, line_units, read_line_form, reading}
use Rattle.cil_core.specs.declared.cil_members.core_out.CoreOut.{CoreOut}
use Rattle.cil_core.specs.cil_members.Outs.{gives_by}

from_line : (s : State) (give : Gives) (input : List ℕ) → 0 < length input
    → line_from s give input ≡ gives_text (line_units (line_of input)) (reading s (line_of input).rest) give
from_line s give [] h = absurd (omega (arith, h))
from_line s give (u ∷ us) h = refl

is_line : (q : Queries) (s : State) (args : List Value) (give : Gives) → length args < 1 → read_line_form q args s give ≡ line_from s give s.input
unfolding read_line_form
is_line q s [] give h = refl
is_line q s (v ∷ vs) give h = absurd (omega (arith, h))

pub line_read : {E : Type 0} (r : Result CoreOut E) (s t : State) (args : List Value) (units : List ℕ) (l : Line) → length args < 1 → 0 < length s.input
    → line_of s.input ≡ l → units ≡ line_units l
    → IfOk r (λ out. (give : Gives) → gives_by out t [] give ≡ gives_text units (reading s l.rest) give)
    → IfOk r (λ out. (q : Queries) (give : Gives) → gives_by out t [] give ≡ read_line_form q args s give)
line_read (Err e) s t args units l a n k m h = h
line_read (Ok out) s t args units l a n k m h = λ q give.
    h give
    ∙ ap (λ (us : List ℕ). gives_text us (reading s l.rest) give) m
    ∙ sym (is_line q s args give a ∙ from_line s give s.input n ∙ ap (λ (x : Line). gives_text (line_units x) (reading s x.rest) give) k)
