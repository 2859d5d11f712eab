-- Sources by their places in a list.
use Rattle.std.specs.Prelude.{ℕ, List, unwrap_or}
use Rattle.std.specs.List.{position_from}
use Rattle.rules.specs.declared.flow_rules.moves.Move.{Move}
use Rattle.rules.specs.declared.flow_rules.moves.Move.TheVariants as move
use Rattle.rules.specs.declared.flow_rules.source.Source.{Source}
use Rattle.rules.specs.flow_rules.Sources.{same_source}

-- the place of a source; 1, that of Opaque, for one that isn't there
abbrev pub number_in : List Source → Source → ℕ
number_in sources s = unwrap_or (position_from (same_source s) 0 sources) 1

abbrev pub numbered_move : List Source → Move Source → Move ℕ
numbered_move sources (move.Load n) = move.Load n
numbered_move sources (move.Store n) = move.Store n
numbered_move sources move.Twice = move.Twice
numbered_move sources move.Back = move.Back
numbered_move sources (move.Make s) = move.Make (number_in sources s)
numbered_move sources (move.Turn t) = move.Turn t
numbered_move sources move.Nothing = move.Nothing
