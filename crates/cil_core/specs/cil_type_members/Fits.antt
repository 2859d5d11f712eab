-- What an argument of Type.IsAssignableFrom comes to.
use Rattle.std.specs.Prelude.{[], Option, Some, None}
use Rattle.il_base.specs.declared.core_table.names.CoreName.TheVariants.{NullReferenceException}
use Rattle.il_base.specs.declared.cil_values.state.State.{State}
use Rattle.rules.specs.step_rules.Queries.{Queries}
use Rattle.rules.specs.step_rules.Next.{Next}
use Rattle.rules.specs.step_rules.Raising.{raise}
use Rattle.rules.specs.step_rules.CoreWords.{Gives}
use Rattle.cil_core.specs.declared.cil_members.core_out.CoreOut.{CoreOut}
use Rattle.cil_core.specs.cil_members.Outs.{gives_by}

-- goes on with what the member came to; null raises an exception
abbrev pub fits_next : Option CoreOut → Queries → State → Gives → Next
fits_next None q s give = raise q NullReferenceException s
fits_next (Some out) q s give = gives_by out s [] give
