-- What a cast makes of a value.
use Rattle.std.specs.Prelude.{List, ◌∷◌, ◌==◌, if◌then◌else◌}
use Rattle.il_base.specs.declared.opcode.TheConstants.{CASTCLASS}
use Rattle.il_base.specs.declared.core_table.names.CoreName.TheVariants.{InvalidCastException}
use Rattle.il_base.specs.declared.cil_values.value.Value.{Value}
use Rattle.il_base.specs.declared.cil_values.value.Value.TheVariants as value
use Rattle.il_base.specs.declared.cil_values.resolved.Instruction.{Instruction}
use Rattle.il_base.specs.declared.cil_values.state.State.{State}
use Rattle.rules.specs.step_rules.Queries.{Queries}
use Rattle.rules.specs.step_rules.Next.{Next}
use Rattle.rules.specs.step_rules.Words.{Here, stuck, goes}
use Rattle.rules.specs.step_rules.Raising.{raise}
use Rattle.machine_objects.specs.declared.cil_types.casts.CastOutcome.{CastOutcome}
use Rattle.machine_objects.specs.declared.cil_types.casts.CastOutcome.TheVariants.{Keeps, Refuses, Stuck}

-- the value stays, or the step goes on otherwise
unfoldable pub cast_by : CastOutcome → Here → Instruction → State → Value → List Value → Next → Next
cast_by Keeps here i s v stack other = goes here i (v ∷ stack) s
cast_by Refuses here i s v stack other = other
cast_by Stuck here i s v stack other = stuck s

-- an object of another type, with the stack below it
abbrev pub refusal_by : Queries → Here → Instruction → State → List Value → Next
refusal_by q here i s stack = if i.opcode == CASTCLASS then raise q InvalidCastException s else goes here i (value.Null ∷ stack) s
