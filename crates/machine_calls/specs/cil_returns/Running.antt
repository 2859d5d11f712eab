-- What a frame runs, with its instruction.
use Rattle.std.specs.Prelude.{Option}
use Rattle.std.specs.Option.{option_map, option_and_then}
use Rattle.il_base.specs.declared.cil_values.frame.Frame.{Frame}
use Rattle.il_base.specs.declared.cil_values.resolved.Instruction.{Instruction}
use Rattle.rules.specs.step_rules.Queries.{Queries}
use Rattle.rules.specs.step_rules.Words.{Here, here_of, instruction_at}

-- None where its method has no body that can run, or no instruction begins at its offset
unfoldable pub running_of : Queries → Frame → Option (Here × Instruction)
running_of q f = option_and_then (λ (here : Here). option_map (λ (i : Instruction). (here, i)) (instruction_at here.code f.at)) (here_of q f)
