-- What an instruction does, as the code has it.
use Rattle.rules.specs.declared.flow_rules.moves.Move.{Move}
use Rattle.rules.specs.declared.flow_rules.moves.Move.TheVariants as move
use Rattle.rules.specs.declared.flow_rules.source.Source.{Source}
use Rattle.value_flow.specs.declared.doing.Doing.{Doing}
use Rattle.value_flow.specs.declared.doing.Doing.TheVariants as doing

abbrev pub move_in : Doing → Move Source
move_in (doing.Load n) = move.Load n
move_in (doing.Store n) = move.Store n
move_in doing.Twice = move.Twice
move_in doing.Back = move.Back
move_in (doing.Make s) = move.Make s
move_in (doing.Turn t) = move.Turn t
move_in doing.Nothing = move.Nothing
