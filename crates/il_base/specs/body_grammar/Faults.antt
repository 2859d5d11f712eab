-- Reading from the left, with the first fault that is met.
use Rattle.std.specs.Prelude.{ℕ, Option, Some, None, Result, Ok, Err}
use Rattle.il_base.specs.declared.body_grammar.body.Fault.{Fault}

infixl 10 ◌>>=◌
abbrev pub ◌>>=◌ : {A B : Type 0} → Result A Fault → (A → Result B Fault) → Result B Fault
(Ok x) >>= f = f x
(Err e) >>= f = Err e

abbrev pub fault : ℕ → ℕ → Fault
fault at what = record { at = at; what = what }

-- what is there, else a fault
abbrev pub need : {A : Type 0} → Option A → Fault → Result A Fault
need None f = Err f
need (Some x) f = Ok x
