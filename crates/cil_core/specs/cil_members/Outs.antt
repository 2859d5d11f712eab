-- What a call of a member comes to, as the definition has it.
use Rattle.std.specs.Prelude.{◌≡◌, ℕ, List}
use Rattle.il_base.specs.declared.cil_values.state.State.{State}
use Rattle.rules.specs.step_rules.Next.{Next}
use Rattle.rules.specs.step_rules.CoreWords.{Gives}
use Rattle.machine_words.specs.cil_words.Steps.{next_of}
use Rattle.cil_core.specs.declared.cil_members.core_out.CoreOut.{CoreOut}
use Rattle.cil_core.specs.declared.cil_members.core_out.CoreOut.TheVariants.{Gave, Stepped}

-- goes on with what was given, the state after it and what it printed
abbrev pub gives_by : CoreOut → State → List ℕ → Gives → Next
gives_by (Gave v) s bytes give = give s v bytes
gives_by (Stepped out) s bytes give = next_of out s bytes

-- a member that is whole in its step changes no frame that waits
abbrev pub KeepsFrames : CoreOut → State → State → Type 0
KeepsFrames (Gave v) s t = t.below ≡ s.below
KeepsFrames (Stepped out) s t = Unit {0}
