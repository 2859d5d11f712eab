-- The answer of a call that looks for the first fault.
use Rattle.std.specs.Prelude.{◌≡◌, Option, Some, None, Result, Ok, Err}
use Rattle.rules.specs.declared.link_rules.link_error.LinkError.{LinkError}
use Rattle.rules.specs.declared.link_rules.link_error.LinkError.TheVariants as fault

-- Ok where there is none, and else the fault; want of memory is free
abbrev pub Answers : Option LinkError → Result Unit LinkError → Type 0
Answers found (Ok u) = found ≡ None
Answers found (Err (fault.Bad file why token)) = found ≡ Some (fault.Bad file why token)
Answers found (Err fault.NoMemory) = Unit {0}
