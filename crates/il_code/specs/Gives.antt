-- What a reader answers, beside what the grammar gives.
use Rattle.std.specs.Prelude.{◌≡◌, ℕ, Result, Ok, Err}
use Rattle.il_base.specs.declared.body.Body.{Body}
use Rattle.il_base.specs.declared.body_grammar.body.Fault.{Fault}
use Rattle.il_base.specs.body_grammar.Faults.{fault}
use Rattle.il_code.specs.declared.error.BodyError.{BodyError}
use Rattle.il_code.specs.declared.error.BodyError.TheVariants as error
use Rattle.il_code.specs.declared.error.ReadBody.{ReadBody}

-- the grammar's fault, unless memory ran out
abbrev pub Fails : {Y : Type 0} → BodyError → Result Y Fault → Type 0
Fails error.NoMemory read = Unit {0}
Fails (error.Bad at what) read = read ≡ Err (fault at what)

-- What was read is the grammar's value, seen by a view; what wasn't fails as the grammar does, unless memory ran out.
abbrev pub Gives : {X Y : Type 0} → (X → Y) → Result X BodyError → Result Y Fault → Type 0
Gives view (Ok x) read = read ≡ Ok (view x)
Gives view (Err e) read = Fails e read

abbrev pub same : {X : Type 0} → X → X
same x = x

abbrev pub whole : ReadBody → Body × ℕ
whole r = (r.body, r.length)
