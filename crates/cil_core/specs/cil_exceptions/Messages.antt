-- What exceptions tell, as the code has it.
use Rattle.il_base.specs.declared.cil_values.value.Value.TheVariants as value
use Rattle.il_base.specs.declared.cil_values.state.State.{State}
use Rattle.rules.specs.step_rules.Next.{Next}
use Rattle.rules.specs.step_rules.Words.{stuck}
use Rattle.rules.specs.step_rules.CoreWords.{Gives, gives_value, gives_text}
use Rattle.cil_core.specs.declared.cil_exceptions.messages.Told.{Told}
use Rattle.cil_core.specs.declared.cil_exceptions.messages.Told.TheVariants.{Stored, New, Stuck}

abbrev pub told_next : Told → State → Gives → Next
told_next (Stored a) s give = gives_value (value.Object a) s give
told_next (New units) s give = gives_text units s give
told_next Stuck s give = stuck s
