use Rattle.std.proofs.Common.{◌≡◌, ◌++◌, drop, map}
use Rattle.rules.specs.flow_rules.Moves.{move_of, moves_of}
use Rattle.value_flow.specs.body_graph.Methods.{setting_in}
use Rattle.value_flow.specs.Numbers.{numbered_move}
use Rattle.value_flow.proofs.parts.moves_of.Given as goal

abbrev pub invariant-loop-i : goal.invariant-loop-i
invariant-loop-i l =
    l.moves.items ++ map (numbered_move l.sources) (map (move_of l.m.world.now.recs (setting_in l.m) l.owner) (drop l.i-index l.m.body.now.code))
    ≡ map (numbered_move l.sources) (moves_of l.m.world.now.recs (setting_in l.m) l.owner)
